use Rattle.odd_offers.proofs.AlikeNames.{ApartSoFar}
use Rattle.odd_offers.proofs.naming.has_twice.Given as goal

abbrev pub invariant-loop-name : goal.invariant-loop-name
invariant-loop-name l = ApartSoFar l.fn.names l.name-iterator.rest.items l.seen
