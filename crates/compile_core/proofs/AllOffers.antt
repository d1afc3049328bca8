-- A table of what each element offers lists just that.
use Rattle.std.proofs.Common.{◌≡◌, ℕ, List, [], Option, Some, None, sym, ◌∙◌}
use Rattle.std.specs.FinMap.{find}
use Rattle.std.specs.Prelude.{MatchOption, unwrap_or}
use Rattle.compile_defines.specs.Compiled.{AreAllOffers, offers_in, offers_of}
use Rattle.odd_classes.proofs.OffersSet.{offers_set}
use Rattle.odd_classes.specs.Offered.{AreOffersIn, Givens}
use Rattle.odd_text.proofs.SetOf.{none_rising}
use Rattle.odd_text.specs.Sorted.{IsSet}
use Rattle.odd_library.specs.Odd.{element_key}
use Rattle.odd_library.specs.declared.library.Library.{Library}
use Rattle.odd_meaning.specs.Offering as offering
use Rattle.odd_meaning.specs.Offering.{OffersOne, offer_cmp, Offers}
use Rattle.odd_offers.specs.Answers.{AreGivensOf}
use Rattle.odd_attributes.specs.declared.att_def.AttDef.{AttDef}
use Rattle.odd_text.specs.Key.{key_cmp}
use Rattle.odd_text.specs.Text.{text_cmp}
use Rattle.odd_text.specs.declared.key.Key.{Key}
use Rattle.odd_text.proofs.InList.{nothing_stands}

-- what is not held offers nothing
none_offered : (library : Library) (holder : Key) (ident : List ℕ) (def : AttDef) (giver : Key) → find key_cmp holder library.parts ≡ None → Offers library holder ident def giver → ⊥
none_offered library holder ident def giver lacks (offering.own part there e) = let no : None ≡ Some part = sym lacks ∙ there in cc
none_offered library holder ident def giver lacks (offering.inherited part class before there among above passes) = let no : None ≡ Some part = sym lacks ∙ there in cc

pub all_offers : (library : Library) (table : List (List ℕ × Givens)) → AreOffersIn library table → AreAllOffers library (offers_in table)
all_offers library table are element = by (find text_cmp element table) (are element)
  where
    by : (listed : Option Givens) → MatchOption listed (find key_cmp (element_key element) library.parts ≡ None) (AreGivensOf library element)
        → IsSet offer_cmp (OffersOne library element) (offers_of (unwrap_or listed []))
    by None lacks = record {
      rising = none_rising offer_cmp;
      none_else = λ o s. absurd (nothing_stands o s);
      each = λ o is. absurd (none_offered library (element_key element) o.0 o.1 is.0 lacks is.1);
    }
    by (Some givens) right = offers_set library element givens right
