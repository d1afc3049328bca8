use Rattle.std.proofs.Common.{subst, sym}
use Rattle.odd_text.specs.Sorted.{IsSet}
use Rattle.odd_classes.specs.Offered.{IsOfferOfOne, offer_cmp, offers_of}
use Rattle.odd_classes.proofs.OffersListed.{listed_offers}
use Rattle.odd_classes.proofs.checked.Checked.offered.Goals as goal

pub returns-in_ok-offers_of-in-Some : goal.returns-in_ok-offers_of-in-Some
returns-in_ok-offers_of-in-Some c =
    let set = listed_offers _ c.args.element.now _ c.in-Some.givens.now c.self.invariant.offered (sym c.in-Some.ensures) in
    rw c.in_ok-offers_of-in-Some.ensures (subst (λ library. IsSet offer_cmp (IsOfferOfOne library c.args.element.now) (offers_of c.in-Some.givens.now)) c.self.view_is set)
