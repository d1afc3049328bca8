use Rattle.std.proofs.Common.{sym, ◌∙◌}
use Rattle.std.proofs.lemmas.Result.{IfOk-weaker}
use Rattle.odd_decls.proofs.ItemsListed.{bare_listed, first_within, held_listed, schema_at}
use Rattle.odd_decls.proofs.file_items.items_of.Goals as goal

pub items_from-requires : goal.items_from-requires
items_from-requires c =
    let first = rw c.as_slice.ensures.value at c.first_schema.ensures in
    record { within = first_within c.args.groups.now.found.items c.in-Some.first (sym first ∙ c.in-Some.is); parents = c.requires }

pub returns-in-Some : goal.returns-in-Some
returns-in-Some c = λ founds are.
    let first = rw c.as_slice.ensures.value at c.first_schema.ensures in
    let s = schema_at c.args.tree.now c.args.levels.items c.args.groups.now founds are c.in-Some.first (sym first ∙ c.in-Some.is) in
    held_listed c.args.tree.now c.args.levels.items c.args.groups.now founds are s.0 s.2 _ s.3 (c.in_ok-items_from-in-Some.ensures c.args.tree.now c.args.levels.items founds s.0 are s.1)

pub returns : goal.returns
returns c = λ founds are.
    let first = rw c.as_slice.ensures.value at c.first_schema.ensures in
    IfOk-weaker c.bare_items.result _ _ (λ made h. bare_listed c.args.tree.now c.args.levels.items c.args.groups.now founds are made.0.items made.1.items (sym first ∙ c.in-None.is) h) c.bare_items.ensures
