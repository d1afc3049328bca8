use Rattle.std.proofs.Common.{[], drop}
use Rattle.odd_text.specs.Standing.{StandsIn}
use Rattle.odd_items.specs.declared.listing.Item.{Item}
use Rattle.odd_decls.specs.Aside.{IsConstraintOf}
use Rattle.odd_decls.specs.Items.{IsTold}
use Rattle.odd_items.proofs.ConstraintPlaces.{AddedSoFar}
use Rattle.odd_decls.proofs.aside.constraints_in.Given as goal

abbrev pub invariant-loop-item : goal.invariant-loop-item
invariant-loop-item l =
    ((item : Item) → StandsIn l.items item → IsTold item) → AddedSoFar (λ (item : Item). IsConstraintOf item.tree.now) l.items (drop l.item-index l.items) [] l.places.keys
