use Rattle.std.proofs.Common.{◌≡◌, drop}
use Rattle.odd_offers.specs.Telling.{is_given}
use Rattle.odd_offers.proofs.telling.is_given.Given as goal

abbrev pub invariant-loop-other : goal.invariant-loop-other
invariant-loop-other l = is_given (drop l.other-index l.offers) l.offer.giver ≡ is_given l.offers l.offer.giver
