-- What is given at each ident, as a list of idents and definitions, with no word of who gives them.
use Rattle.std.proofs.Common.{ℕ, List, map, ap}
use Rattle.odd_text.specs.Sorted.{IsSet}
use Rattle.odd_library.specs.declared.library.Library.{Library}
use Rattle.odd_meaning.specs.Offering.{OffersOne, giver_key, offer_cmp}
use Rattle.odd_offers.specs.Answers.{AreGivensOf}
use Rattle.odd_offers.specs.declared.given.Given.{Given}
use Rattle.odd_classes.proofs.OffersListed.{made_set}

-- each is one that the element offers, and each that it offers is one of these
pub offers_set : (library : Library) (element : List ℕ) (givens : List (List ℕ × Given)) → AreGivensOf library element givens
    → IsSet offer_cmp (OffersOne library element) (map (λ e. (e.0, e.1.def)) givens)
offers_set library element givens are =
    made_set (λ e. (e.0, e.1.def)) offer_cmp (λ one other less. less) givens are.rising (OffersOne library element)
    (λ e found. (giver_key element e.1.giver, ((are.each e.0 e.1).0 found).offered))
    (λ item offers. let given = are.all item.0 item.1 offers.0 offers.1 in ((item.0, given.0), given.1, ap (λ def. (item.0, def)) given.2))
