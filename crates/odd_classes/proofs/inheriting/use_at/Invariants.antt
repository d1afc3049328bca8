use Rattle.std.proofs.Common.{take}
use Rattle.odd_classes.specs.Inheriting.{IsUsedAt}
use Rattle.odd_classes.proofs.inheriting.use_at.Given as goal

abbrev pub invariant-loop-node : goal.invariant-loop-node
invariant-loop-node l = IsUsedAt (take l.node-index l.nodes) l.at l.initial.last.items l.last.items
