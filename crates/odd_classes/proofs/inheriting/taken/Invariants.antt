use Rattle.std.proofs.Common.{take}
use Rattle.odd_classes.proofs.TablesTaken.{TakenSoFar}
use Rattle.odd_classes.proofs.inheriting.taken.Given as goal

abbrev pub invariant-loop-node : goal.invariant-loop-node
invariant-loop-node l = TakenSoFar l.last l.at (take l.node-index l.nodes) l.fn.tables.items l.tables.items l.made.items
