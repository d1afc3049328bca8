use Rattle.std.proofs.Common.{take}
use Rattle.rng_matching.proofs.Alike.{AreAlike}
use Rattle.rng_matching.proofs.searched.Searched.of.Given as goal

abbrev pub invariant-loop-atom : goal.invariant-loop-atom
invariant-loop-atom l = AreAlike l.sets (take l.atom-index l.classes)
