-- What is made so far is what the two maps make, but for the keys of what is left of them.
use Rattle.std.proofs.Common.{◌+◌, length}
use Rattle.odd_overlay.specs.Merging.{IsMergedSoFar}
use Rattle.odd_overlay.proofs.pairing.zipped_maps.Given as goal

abbrev pub invariant-loop-key : goal.invariant-loop-key
invariant-loop-key g l = IsMergedSoFar g.K.Ord.cmp (g.P.Pairing.pairs l.pairing) l.fn.one l.one l.fn.other l.other l.made

abbrev pub decreases-loop-key : goal.decreases-loop-key
decreases-loop-key g l = length l.one + length l.other
