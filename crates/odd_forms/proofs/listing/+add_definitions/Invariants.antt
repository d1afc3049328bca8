use Rattle.std.proofs.Common.{drop, map}
use Rattle.odd_tree.specs.Elements.{children_of, elements_of}
use Rattle.odd_forms.proofs.Listed.{ListedSoFar}
use Rattle.odd_forms.proofs.listing.+add_definitions.Given as goal

abbrev pub invariant-loop-node : goal.invariant-loop-node
invariant-loop-node l = ListedSoFar (children_of l.list) (elements_of (drop l.node-index l.node-items)) (map (λ t. t.now) l.initial.defs.items) (map (λ t. t.now) l.defs.items)
