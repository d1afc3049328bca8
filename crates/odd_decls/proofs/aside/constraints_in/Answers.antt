use Rattle.std.proofs.Common.{◌+◌, [], drop, refl, subst, sym}
use Rattle.std.proofs.lemmas.List.{drop_all}
use Rattle.odd_text.proofs.InList.{begins, standing}
use Rattle.odd_tree.specs.declared.tree.Tree.{Tree}
use Rattle.odd_items.proofs.ConstraintPlaces.{AddedSoFar, InOne, added_all, added_none, added_one, adds_same}
use Rattle.odd_items.specs.Groups.{IsItemIn}
use Rattle.odd_items.specs.declared.listing.Item.{Item}
use Rattle.odd_decls.specs.Aside.{IsConstraintOf, IsLeftOut}
use Rattle.odd_decls.proofs.Constraints.{items_have, items_told}
use Rattle.odd_decls.proofs.aside.constraints_in.Goals as goal

pub loop-item-init : goal.loop-item-init
loop-item-init c = λ told.
    let items = c.args.items.now in
    let Has : Item → Tree → Type 0 = λ item. IsConstraintOf item.tree.now in
    subst (λ keys. AddedSoFar Has items items keys c.new-places.result.keys) c.new-places.ensures.empty (added_none Has items items c.new-places.result.keys refl)

pub loop-item-preserved : goal.loop-item-preserved
loop-item-preserved c = λ told.
    let items = c.args.items.now in
    let i = c.loop-item.item-index in
    let item = c.item-item.result in
    let rest = begins items i item c.loop-item-test.true c.item-item.is in
    added_one (λ (x : Item). IsConstraintOf x.tree.now) items (drop i items) [] c.loop-item.places.keys (c.loop-item.invariant told) item (drop (i + 1) items) c.add_item.new.places.keys rest
    (c.in_ok-add_item.ensures (told item (standing items item (i, c.loop-item-test.true, sym c.item-item.is))))

pub returns : goal.returns
returns c = λ t schemas levels are.
    let items = c.args.items.now in
    let Has : Item → Tree → Type 0 = λ item. IsConstraintOf item.tree.now in
    let rest = drop c.loop-item.item-index items in
    adds_same (InOne Has items) (IsLeftOut t schemas) [] c.loop-item.places.keys (items_have t schemas levels items are)
    (added_all Has items rest [] c.loop-item.places.keys (c.loop-item.invariant (items_told levels items (IsItemIn t schemas) are)) (drop_all c.loop-item.item-index items c.loop-item-test.false))
