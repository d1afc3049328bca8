use Rattle.std.proofs.Common.{ap, map, sym, ◌∙◌}
use Rattle.std.proofs.lemmas.Result.{IfOk-weaker}
use Rattle.std.specs.Option.{is_some}
use Rattle.odd_tree.specs.Elements.{all_binds}
use Rattle.odd_items.specs.Search.{Found}
use Rattle.odd_decls.proofs.ItemElements.{declaration_given, none_declared, reference_given}
use Rattle.odd_decls.proofs.items.item_entry.Goals as goal

pub returns-then-is_some : goal.returns-then-is_some
returns-then-is_some c told =
    let item : Found = record { around = all_binds (map (λ b. b.now) c.args.around.now); element = c.args.item.now.tree.now } in
    let e = c.in-Some.element in
    IfOk-weaker c.spec_entry.result _ _
    (λ made read. declaration_given c.args.ns.now item e made (sym told ∙ c.in-Some.is) (ap is_some (sym c.kind_declared.ensures) ∙ sym c.is_some.ensures ∙ c.if-is_some.true) read) (c.spec_entry.ensures told)

pub returns : goal.returns
returns c told =
    let item : Found = record { around = all_binds (map (λ b. b.now) c.args.around.now); element = c.args.item.now.tree.now } in
    let e = c.in-Some.element in
    let none = none_declared _ (ap is_some (sym c.kind_declared.ensures) ∙ sym c.is_some.ensures ∙ c.if-is_some.false) in
    IfOk-weaker c.reference_entry.result _ _ (λ made is. reference_given c.args.ns.now item e made (sym told ∙ c.in-Some.is) none (sym is)) c.reference_entry.ensures
