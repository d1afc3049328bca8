use Rattle.std.proofs.Common.{ap, filter, sym, subst, ◌∙◌}
use Rattle.odd_forms.specs.Names.{is_one_of}
use Rattle.odd_items.specs.Groups.{schema_names}
use Rattle.odd_decls.proofs.ItemsListed.{all_found, holders_are}
use Rattle.odd_decls.proofs.StepsFound.{parents_within}
use Rattle.odd_decls.specs.FileItems.{AreInOrder}
use Rattle.odd_decls.proofs.file_items.file_items.Goals as goal

pub items_of-requires : goal.items_of-requires
items_of-requires c =
    let f = c.in_ok-levels.ensures in
    let levels = c.in_ok-levels.field-0.levels.items in
    let groups = c.in_ok-groups.groups in
    parents_within c.args.tree.now levels groups f.0
    (holders_are c.args.tree.now levels c.in_ok-levels.field-0.found.items f.0 groups f.1 f.2 f.3 c.in_ok-groups.ensures.found c.in_ok-groups.ensures.ids)

pub returns : goal.returns
returns c = λ first end formed.
    let f = c.in_ok-levels.ensures in
    let levels = c.in_ok-levels.field-0.levels.items in
    let groups = c.in_ok-groups.groups in
    let are = holders_are c.args.tree.now levels c.in_ok-levels.field-0.found.items f.0 groups f.1 f.2 f.3 c.in_ok-groups.ensures.found c.in_ok-groups.ensures.ids in
    all_found c.args.tree.now first end formed levels f.0 c.in_ok-levels-2.items.items _ are
    (c.in_ok-schemas.ensures ∙ ap (filter (λ k. is_one_of schema_names k.tree.now)) (c.as_slice.ensures.value ∙ sym c.in_ok-groups.ensures.found)) (c.in_ok-levels-2.ensures f.0 are)
    (subst (λ items. AreInOrder items c.in_ok-in_order.field-0.items) c.as_slice-2.ensures.value c.in_ok-in_order.ensures)
