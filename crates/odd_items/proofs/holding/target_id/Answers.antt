use Rattle.std.proofs.Common.{sym, ap, ◌∙◌}
use Rattle.std.proofs.lemmas.Result.{IfOk-weaker}
use Rattle.std.specs.Option.{option_copied}
use Rattle.odd_items.proofs.Referring.{refers_to}
use Rattle.odd_items.proofs.holding.target_id.Goals as goal

pub returns-in-Some : goal.returns-in-Some
returns-in-Some c =
    IfOk-weaker c.fragment.result _ _
    (λ made h. refers_to c.args.tree.now c.in-Some.target.now made (sym c.is_one_of.ensures ∙ c.if-not-is_one_of.false) (sym c.attribute.ensures ∙ ap option_copied c.in-Some.is) h)
    c.fragment.ensures
