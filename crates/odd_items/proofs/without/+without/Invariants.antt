use Rattle.std.proofs.Common.{drop, length}
use Rattle.std.specs.List.{Contains}
use Rattle.odd_tree.specs.declared.tree.Tree.{out-Tree}
use Rattle.odd_items.proofs.SoFar.{LeftSoFar}
use Rattle.odd_items.proofs.without.+without.Given as goal

abbrev pub invariant-children_without-loop-node : goal.invariant-children_without-loop-node
invariant-children_without-loop-node l = LeftSoFar (λ t. Contains l.places.keys (out-Tree t).at) l.nodes (drop l.node-index l.node-items) l.left.nodes l.left.text (length l.initial.gone.items) (length l.gone.items)
