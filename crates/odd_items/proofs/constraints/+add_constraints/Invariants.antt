use Rattle.std.proofs.Common.{drop}
use Rattle.odd_tree.specs.Elements.{children_of, elements_of}
use Rattle.odd_items.proofs.ConstraintPlaces.{AddedSoFar, HasConstraint}
use Rattle.odd_items.proofs.constraints.+add_constraints.Given as goal

abbrev pub invariant-loop-node : goal.invariant-loop-node
invariant-loop-node l = AddedSoFar (HasConstraint l.element) (children_of l.tree) (elements_of (drop l.node-index l.node-items)) l.initial.places.keys l.places.keys
