use Rattle.std.proofs.Common.{◌≡◌, Option, Some, None, get_or, map, ap, sym, subst, ◌∙◌}
use Rattle.odd_tree.specs.Elements.{all_binds}
use Rattle.odd_items.specs.Searching.{IsAround}
use Rattle.odd_library.specs.declared.odd.Entry.{Entry}
use Rattle.odd_decls.specs.ItemReading.{GivesEntry}
use Rattle.odd_decls.proofs.ItemsRead.{Gives, all_made, entries_read, more_made, none_made}
use Rattle.odd_decls.proofs.reading.entries_of.Goals.{in-Some+in_ok-push, in_default}
use Rattle.odd_decls.proofs.reading.entries_of.Goals as goal

pub loop-item-init : goal.loop-item-init
loop-item-init c = none_made c.args.of.now.levels.items c.args.ns.now c.args.of.now.items.items c.new-entries.result c.new-entries.ensures

-- what the item gives
item_gives : (c : goal.After-drop-around-in-loop-item) (given : Option Entry) → c.in_ok-entry.field-0 ≡ given → Gives c.args.of.now.levels.items c.args.ns.now c.item-item.result given
item_gives c given is around at told =
    let item = c.item-item.result in
    let path = c.in_ok-around.ensures around (subst (λ ls. IsAround ls item.level around) (sym c.as_slice.ensures.value) at) in
    subst (λ bs. GivesEntry c.args.ns.now (record { around = bs; element = item.tree.now }) given)
    (ap (λ xs. all_binds (map (λ b. b.now) xs)) c.as_slice-in-loop-item.ensures.value ∙ path)
    (subst (GivesEntry c.args.ns.now (record { around = all_binds (map (λ b. b.now) c.as_slice-in-loop-item.result.now); element = item.tree.now })) is (c.in_ok-entry.ensures told))

pub loop-item-preserved : goal.loop-item-preserved
loop-item-preserved c =
    let levels = c.args.of.now.levels.items in
    let ns = c.args.ns.now in
    let items = c.args.of.now.items.items in
    let item = c.item-item.result in
    let same = c.deref-item-items.ensures.value in
    let within = rw same at c.loop-item-test.true in
    let at = subst (λ xs. item ≡ get_or xs c.loop-item.item-index item) same c.item-item.is in
    elim c.match-branch-3.branch [
      | in-Some+in_ok-push w ↦ more_made levels ns items _ _ _ item (Some w.in-Some.entry) c.loop-item.invariant within at (item_gives c _ w.in-Some.is) (w.entries-is ∙ w.in_ok-push.ensures.ok)
      | in_default w ↦ more_made levels ns items _ _ _ item None c.loop-item.invariant within at (item_gives c _ w.in_default.is) w.entries-is
    ]

pub returns : goal.returns
returns c t first end formed are unoffended same =
    let levels = c.args.of.now.levels.items in
    let ns = c.args.ns.now in
    let items = c.args.of.now.items.items in
    let end = rw c.deref-item-items.ensures.value at c.loop-item-test.false in
    entries_read t are.schemas levels items ns _ unoffended are.finds are.items are.rises same (all_made levels ns items _ _ c.loop-item.invariant end)
