use Rattle.odd_classes.proofs.Thinning.{KeptSoFar}
use Rattle.odd_classes.proofs.leading.thinned.Given as goal

abbrev pub invariant-loop-nexts : goal.invariant-loop-nexts
invariant-loop-nexts l = KeptSoFar l.arrows l.marks l.made.items l.nexts-index
