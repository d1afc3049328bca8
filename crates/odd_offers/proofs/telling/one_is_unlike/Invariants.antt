use Rattle.std.proofs.Common.{◌≡◌, not, drop}
use Rattle.std.specs.List.{list_any}
use Rattle.odd_offers.proofs.telling.one_is_unlike.Given as goal

abbrev pub invariant-loop-offer : goal.invariant-loop-offer
invariant-loop-offer g l =
    list_any (λ offer. not (g.P.Part.alike l.part l.first offer.def)) (drop l.offer-index l.offers)
    ≡ list_any (λ offer. not (g.P.Part.alike l.part l.first offer.def)) l.offers
