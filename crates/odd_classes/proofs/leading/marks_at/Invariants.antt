use Rattle.std.proofs.Common.{take}
use Rattle.odd_classes.proofs.Thinning.{MarkedSoFar}
use Rattle.odd_classes.proofs.leading.marks_at.Given as goal

abbrev pub invariant-loop-node : goal.invariant-loop-node
invariant-loop-node l = MarkedSoFar l.count (take l.node-index l.nodes) l.marks.items
