use Rattle.odd_forms.proofs.Alike.{ApartSoFar}
use Rattle.odd_forms.proofs.twice.has_twice.Given as goal

abbrev pub invariant-loop-value : goal.invariant-loop-value
invariant-loop-value l = ApartSoFar l.fn.values l.value-iterator.rest.items l.seen
