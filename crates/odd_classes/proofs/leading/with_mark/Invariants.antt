use Rattle.std.proofs.Common.{◌↔◌, ℕ, take}
use Rattle.std.specs.List.{Contains}
use Rattle.odd_graph.specs.Marking.{IsMarked}
use Rattle.odd_classes.proofs.leading.with_mark.Given as goal

abbrev pub invariant-loop-node : goal.invariant-loop-node
invariant-loop-node l = (node : ℕ) → Contains l.kept node ↔ (Contains (take l.node-index l.node-items) node × IsMarked l.marks node)
