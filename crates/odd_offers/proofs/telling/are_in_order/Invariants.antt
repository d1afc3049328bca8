use Rattle.std.proofs.Common.{◌≡◌, drop}
use Rattle.odd_offers.specs.Telling.{are_in_order}
use Rattle.odd_offers.proofs.telling.are_in_order.Given as goal

abbrev pub invariant-loop-offer : goal.invariant-loop-offer
invariant-loop-offer l = are_in_order (drop l.offer-index l.offers) ≡ are_in_order l.offers
