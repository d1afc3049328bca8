use Rattle.std.proofs.Common.{ℕ, take}
use Rattle.std.specs.List.{Contains}
use Rattle.odd_graph.specs.Marking.{IsMarked}
use Rattle.odd_classes.proofs.offering.reaches_loop.Given as goal

abbrev pub invariant-loop-node : goal.invariant-loop-node
invariant-loop-node l = (node : ℕ) → Contains (take l.node-index l.node-items) node → IsMarked l.loops.items node → ⊥
