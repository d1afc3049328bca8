use Rattle.std.proofs.Common.{drop, map}
use Rattle.odd_tree.specs.Elements.{all_binds, children_of, elements_of}
use Rattle.odd_forms.specs.Deep.{PlacedFault}
use Rattle.odd_text.proofs.Least.{LeastSoFar}
use Rattle.odd_forms.proofs.deep.+deep.Given as goal

abbrev pub invariant-children_fault-loop-node : goal.invariant-children_fault-loop-node
invariant-children_fault-loop-node l =
    LeastSoFar (PlacedFault l.parent l.left (all_binds (map (λ b. b.now) l.inside))) (children_of l.tree) (elements_of (drop l.node-index l.node-items)) l.least
