-- What an element offers, as a list, and what is answered where it breaks a rule.
use Rattle.std.specs.Prelude.{◌≡◌, ◌≤◌, ◌<◌, ◌↔◌, ◌⊎◌, ℕ, List, Option, Some, None, MatchOption, length, map, slice_get}
use Rattle.std.specs.FinMap.{find}
use Rattle.std.specs.declared.cmp.Ordering.{Ordering}
use Rattle.odd_text.specs.Key.{key_cmp}
use Rattle.odd_text.specs.declared.key.Key.{Key}
use Rattle.odd_text.specs.Text.{text_cmp}
use Rattle.odd_library.specs.Odd.{element_key}
use Rattle.odd_library.specs.declared.library.Component.{Component}
use Rattle.odd_library.specs.declared.library.Library.{Library}
use Rattle.odd_meaning.specs.Classes.{IsMember}
use Rattle.odd_meaning.specs.Links.{class_key}
use Rattle.odd_meaning.specs.Offering.{IsOfferOf}
use Rattle.odd_meaning.specs.Rules.{Contradicts, SharesName}
use Rattle.odd_offers.specs.Answers.{AreGivensOf}
use Rattle.odd_offers.specs.Tables.{IsInherited, Table}
use Rattle.odd_offers.specs.declared.given.Given.{Given}
use Rattle.odd_classes.specs.declared.answers.Answer.{Answer}
use Rattle.odd_classes.specs.declared.answers.Answer.TheVariants as answer
use Rattle.odd_classes.specs.Placing.{IsPlaceOf}
use Rattle.odd_classes.specs.declared.offering.Offer.{Offer}

-- by ident
abbrev pub offer_cmp : Offer → Offer → Ordering
offer_cmp one other = text_cmp one.ident other.ident

-- the element offers the attribute, and no lesser giver gives it
abbrev pub IsOfferOfOne : Library → List ℕ → Offer → Type 0
IsOfferOfOne library element offer = IsOfferOf library element offer.ident offer.def offer.giver

-- what is given at each ident, as a list
abbrev pub offers_of : List (List ℕ × Given) → List Offer
offers_of givens = map (λ e. record { ident = e.0; def = e.1.def; giver = e.1.giver }) givens

-- the rule that it breaks, of the two the first
abbrev pub IsRightRule : Library → List ℕ → ℕ → Type 0
IsRightRule library element rule = ((rule ≡ 15) × Contradicts library element) ⊎ ((rule ≡ 16) × (Contradicts library element → ⊥) × SharesName library element)

-- the answer is right of the element
abbrev pub IsRight : Library → List ℕ → Answer → Type 0
IsRight library element (answer.Offers givens) = (Contradicts library element → ⊥) × (SharesName library element → ⊥) × AreGivensOf library element givens
IsRight library element (answer.Breaks rule) = IsRightRule library element rule

-- in each library in which the component is held as an element and inherits just what the table has
abbrev pub IsAnswer : Component → Table → Answer → Type 0
IsAnswer part table made = (library : Library) (element : List ℕ) → find key_cmp (element_key element) library.parts ≡ Some part → IsInherited library part table → IsRight library element made

-- what is held at the key is a member of a class that is a member of itself
abbrev pub ReachesLoop : Library → Key → Type 0
ReachesLoop library key = (class : List ℕ) × IsMember library class key × IsMember library class (class_key class)

-- this is answered at the place
abbrev pub HasAnswer : List (Option Answer) → ℕ → Answer → Type 0
HasAnswer answers place made = slice_get answers place ≡ Some (Some made)

-- an element stands at the place, and the answer is right of it
abbrev pub IsRightAt : Library → ℕ → Answer → Type 0
IsRightAt library place made = (element : List ℕ) × IsPlaceOf library.parts place (element_key element) × IsRight library element made

-- each answer is right of the element at its place, and there is one of each that reaches no class which is a member of itself
pub record AreAnswers (library : Library) (answers : List (Option Answer)) : Type 0 where
  pub as_many : length answers ≡ length library.parts
  pub right : (place : ℕ) (made : Answer) → HasAnswer answers place made → IsRightAt library place made
  pub each : (place : ℕ) (element : List ℕ) → IsPlaceOf library.parts place (element_key element) → (ReachesLoop library (element_key element) → ⊥) → (made : Answer) × HasAnswer answers place made

-- the first place at which it is answered that the rule is broken
abbrev pub IsFirstBreaking : List (Option Answer) → ℕ → Option ℕ → Type 0
IsFirstBreaking answers rule None = (place : ℕ) → HasAnswer answers place (answer.Breaks rule) → ⊥
IsFirstBreaking answers rule (Some first) = HasAnswer answers first (answer.Breaks rule) × ((place : ℕ) → HasAnswer answers place (answer.Breaks rule) → first ≤ place)

-- by ident, for each element that is held just what it offers
abbrev pub AreOffersIn : Library → List (List ℕ × List (List ℕ × Given)) → Type 0
AreOffersIn library table = (element : List ℕ) → MatchOption (find text_cmp element table) (find key_cmp (element_key element) library.parts ≡ None) (AreGivensOf library element)

-- by ident, what is given
abbrev pub Givens : Type 0
Givens = List (List ℕ × Given)

-- this is offered at the place
abbrev pub HasGivens : List (Option Answer) → ℕ → Givens → Type 0
HasGivens answers place givens = HasAnswer answers place (answer.Offers givens)

-- at no place but those of elements is anything offered
abbrev pub AreAtElements : List (Key × Component) → List (Option Answer) → Type 0
AreAtElements entries answers = (place : ℕ) (givens : Givens) → HasGivens answers place givens → (element : List ℕ) × IsPlaceOf entries place (element_key element)

-- by ident, what is offered at the places of elements
abbrev pub AreByIdent : List (Key × Component) → List (Option Answer) → List (List ℕ × Givens) → Type 0
AreByIdent entries answers table = (element : List ℕ) (givens : Givens)
    → (find text_cmp element table ≡ Some givens) ↔ ((place : ℕ) × (place < length answers) × (IsPlaceOf entries place (element_key element) × HasGivens answers place givens))
