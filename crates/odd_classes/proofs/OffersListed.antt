-- What is given at each ident, as a list of what is made of it, as of offers.
use Rattle.std.proofs.Common.{◌≡◌, ℕ, List, [], ◌∷◌, ◌++◌, None, Some, T, map, refl, sym, ap, subst, ◌∙◌}
use Rattle.std.proofs.lemmas.Cmp.{nat_list_cmp_total}
use Rattle.std.specs.FinMap.{find, is_sorted, slice_cmp-IsAntisymmetric, nat_cmp-IsAntisymmetric}
use Rattle.std.specs.Prelude.{IsTrue, MatchOption}
use Rattle.std.specs.declared.cmp.Ordering.{Ordering}
use Rattle.std.specs.declared.cmp.Ordering.TheVariants.{Less}
use Rattle.odd_text.specs.Sorted.{AreRising, IsSet}
use Rattle.odd_library.specs.Odd.{element_key}
use Rattle.odd_library.specs.declared.library.Library.{Library}
use Rattle.odd_offers.proofs.Named.{cut_map, found_in, rise_in}
use Rattle.odd_offers.specs.Answers.{AreGivensOf}
use Rattle.odd_offers.specs.declared.given.Given.{Given}
use Rattle.odd_text.proofs.Entries.{as_T, found_contained}
use Rattle.odd_text.specs.Key.{key_cmp}
use Rattle.odd_text.specs.Text.{text_cmp}
use Rattle.odd_text.proofs.InList.{map_stands, standing, stands_map}
use Rattle.odd_text.specs.Standing.{StandsIn}
use Rattle.odd_classes.specs.Offered.{AreOffersIn, IsOfferOfOne, offer_cmp, offers_of}
use Rattle.odd_classes.specs.declared.offering.Offer.{Offer}

-- what is made of each entry, in an order in which it rises as the keys do
module _ {V A : Type 0} (make : List ℕ × V → A) (order : A → A → Ordering) (keyed : (one other : List ℕ × V) → text_cmp one.0 other.0 ≡ Less → order (make one) (make other) ≡ Less)
    (entries : List (List ℕ × V)) (up : IsTrue (is_sorted text_cmp entries)) where
  -- it rises
  made_rise : AreRising order (map make entries)
  made_rise before after item next e =
      let one = cut_map make entries before (next ∷ after) item e in
      let two = cut_map make one.2 [] after next one.6 in
      let whole : entries ≡ one.0 ++ one.1 ∷ (two.0 ++ two.1 ∷ two.2) = one.3 ∙ ap (λ ks. one.0 ++ one.1 ∷ ks) two.3 in
      let less = rise_in one.0 two.0 two.2 one.1 two.1 (subst (λ es. T (is_sorted text_cmp es)) whole (as_T _ up)) in
      subst (λ x. order x next ≡ Less) one.5 (subst (λ x. order (make one.1) x ≡ Less) two.5 (keyed one.1 two.1 less))

  -- and is the set of what is such, where that is just what is made of the entries that are found
  pub made_set : (Is : A → Type 0) → ((e : List ℕ × V) → find text_cmp e.0 entries ≡ Some e.1 → Is (make e))
      → ((item : A) → Is item → (e : List ℕ × V) × (find text_cmp e.0 entries ≡ Some e.1) × (make e ≡ item)) → IsSet order Is (map make entries)
  made_set Is such entry_of = record {
    rising = made_rise;
    none_else = λ item s.
        let e = stands_map make entries item s in
        let found = subst (λ es. find text_cmp e.0.0 es ≡ Some e.0.1) (sym e.1.2) (found_in e.1.0 e.1.1 e.0 (subst (λ es. T (is_sorted text_cmp es)) e.1.2 (as_T _ up))) in
        subst Is (sym e.2) (such e.0 found);
    each = λ item is.
        let e = entry_of item is in
        let stands = standing entries e.0 (found_contained text_cmp nat_list_cmp_total (slice_cmp-IsAntisymmetric nat_cmp-IsAntisymmetric) e.0.0 e.0.1 entries e.1) in
        subst (StandsIn (map make entries)) e.2 (map_stands make entries e.0 stands);
  }

-- the offer of an entry
abbrev offer_of : List ℕ × Given → Offer
offer_of e = record { ident = e.0; def = e.1.def; giver = e.1.giver }

-- each offer is one that the element offers, and each that it offers is one of these
pub offers_set : (library : Library) (element : List ℕ) (givens : List (List ℕ × Given)) → AreGivensOf library element givens → IsSet offer_cmp (IsOfferOfOne library element) (offers_of givens)
offers_set library element givens are =
    made_set offer_of offer_cmp (λ one other less. less) givens are.rising (IsOfferOfOne library element) (λ e found. (are.each e.0 e.1).0 found)
    (λ item offered. let given : Given = record { def = item.def; giver = item.giver } in ((item.ident, given), (are.each item.ident given).1 offered, refl))

-- so of an element that has an entry in the table of what each offers
pub listed_offers : (library : Library) (element : List ℕ) (table : List (List ℕ × List (List ℕ × Given))) (givens : List (List ℕ × Given)) → AreOffersIn library table
    → find text_cmp element table ≡ Some givens → IsSet offer_cmp (IsOfferOfOne library element) (offers_of givens)
listed_offers library element table givens are found =
    offers_set library element givens (subst (λ f. MatchOption f (find key_cmp (element_key element) library.parts ≡ None) (AreGivensOf library element)) found (are element))
