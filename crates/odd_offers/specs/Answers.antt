-- What an element offers: at each ident one definition, and of several givers the least.
use Rattle.std.specs.Prelude.{◌≡◌, ◌↔◌, ℕ, List, [], ◌∷◌, Option, Some, None, IsTrue, if◌then◌else◌}
use Rattle.std.specs.Option.{option_map}
use Rattle.std.specs.Ordering.{is_lt}
use Rattle.std.specs.FinMap.{find, is_sorted}
use Rattle.odd_text.specs.Text.{text_cmp}
use Rattle.odd_text.specs.declared.key.Key.{Key}
use Rattle.odd_overlay.specs.Overlaid.{zipped}
use Rattle.odd_attributes.specs.Attributes.{def_changed}
use Rattle.odd_attributes.specs.declared.att_edit.AttFields.{AttFields}
use Rattle.odd_attributes.specs.declared.att_edit.AttEdit.{AttEdit}
use Rattle.odd_attributes.specs.declared.att_edit.AttEdit.TheVariants.{Set, Change, Delete}
use Rattle.odd_attributes.specs.declared.att_def.AttDef.{AttDef}
use Rattle.odd_library.specs.Odd.{element_key}
use Rattle.odd_library.specs.declared.library.Library.{Library}
use Rattle.odd_meaning.specs.Offering.{IsOfferOf, Offers}
use Rattle.odd_offers.specs.Tables.{Table}
use Rattle.odd_offers.specs.declared.given.Given.{Given}
use Rattle.odd_offers.specs.declared.table.Offer.{Offer}

-- the offer of the least giver, of one and others; the first of several that have it
abbrev pub least_from : Offer → List Offer → Offer
least_from best [] = best
least_from best (offer ∷ offers) = least_from (if is_lt (text_cmp offer.giver best.giver) then offer else best) offers

abbrev pub least_of : List Offer → Option Offer
least_of [] = None
least_of (offer ∷ offers) = Some (least_from offer offers)

-- what is given by an offer
abbrev pub given_of : Offer → Given
given_of offer = record { def = offer.def; giver = Some offer.giver }

-- the same with the definition changed by the fields
abbrev pub changed_given : AttFields → Offer → Given
changed_given fields offer = record { def = def_changed fields offer.def; giver = Some offer.giver }

-- what an element makes of what it inherits, by its own edit
abbrev pub answer_at : Option AttEdit → Option (List Offer) → Option Given
answer_at None None = None
answer_at None (Some offers) = option_map given_of (least_of offers)
answer_at (Some (Set def)) offers = Some (record { def = def; giver = None })
answer_at (Some Delete) offers = None
answer_at (Some (Change fields)) None = None
answer_at (Some (Change fields)) (Some offers) = option_map (changed_given fields) (least_of offers)

-- by ident, with these edits over what is inherited
abbrev pub IsAnswer : List (List ℕ × AttEdit) → Table → List (List ℕ × Given) → Type 0
IsAnswer edits inherited made = made ≡ zipped text_cmp answer_at edits inherited

-- the map, by rising idents, has exactly what the element offers
pub record AreGivensOf (library : Library) (element : List ℕ) (givens : List (List ℕ × Given)) : Type 0 where
  pub rising : IsTrue (is_sorted text_cmp givens)
  pub each : (ident : List ℕ) (given : Given) → (find text_cmp ident givens ≡ Some given) ↔ IsOfferOf library element ident given.def given.giver
  pub all : (ident : List ℕ) (def : AttDef) (giver : Key) → Offers library (element_key element) ident def giver → (given : Given) × (find text_cmp ident givens ≡ Some given) × (given.def ≡ def)
