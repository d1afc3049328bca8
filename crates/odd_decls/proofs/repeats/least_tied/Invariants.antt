use Rattle.odd_decls.proofs.Tied.{TiedSoFar}
use Rattle.odd_decls.proofs.repeats.least_tied.Given as goal

abbrev pub invariant-loop-one : goal.invariant-loop-one
invariant-loop-one l = TiedSoFar l.keyed l.one-index l.before l.least
