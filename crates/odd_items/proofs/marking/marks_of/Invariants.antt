use Rattle.std.proofs.Common.{take}
use Rattle.odd_items.proofs.MarksSet.{MarkedSoFar}
use Rattle.odd_items.proofs.marking.marks_of.Given as goal

abbrev pub invariant-loop-node : goal.invariant-loop-node
invariant-loop-node l = MarkedSoFar l.arrows l.first (take l.node-index l.node-items) l.marks.items
