use Rattle.std.proofs.Common.{◌≡◌, take, length}
use Rattle.odd_classes.specs.Inheriting.{AreLastUses}
use Rattle.odd_classes.proofs.inheriting.last_uses.Given as goal

abbrev pub invariant-loop-at : goal.invariant-loop-at
invariant-loop-at l = AreLastUses l.arrows (take l.at l.order) l.last.items × (length l.last.items ≡ length l.arrows)
