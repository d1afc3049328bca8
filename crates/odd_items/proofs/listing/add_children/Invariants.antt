use Rattle.odd_items.proofs.Held.{AddsSoFar}
use Rattle.odd_items.proofs.listing.add_children.Given as goal

abbrev pub invariant-loop-tree : goal.invariant-loop-tree
invariant-loop-tree l = AddsSoFar l.kept l.tree-iterator l.initial.items.items l.items.items
