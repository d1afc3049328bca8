-- Tables of what classes offer: at each ident the definitions with the classes that give them.
use Rattle.std.specs.Prelude.{◌≡◌, ◌≢◌, ◌↔◌, ◌&&◌, Bool, true, false, not, if◌then◌else◌, ℕ, List, [], ◌∷◌, ◌++◌, map, Option, Some, None, IsTrue}
use Rattle.std.specs.FinMap.{find}
use Rattle.std.specs.List.{list_any}
use Rattle.std.specs.declared.cmp.Ordering.TheVariants.{Greater}
use Rattle.odd_text.specs.Text.{text_cmp}
use Rattle.odd_text.specs.Standing.{StandsIn}
use Rattle.odd_overlay.specs.Overlaid.{joined_at, zipped}
use Rattle.odd_attributes.specs.Attributes.{def_changed}
use Rattle.odd_attributes.specs.declared.att_def.AttDef.{AttDef}
use Rattle.odd_attributes.specs.declared.att_edit.AttFields.{AttFields}
use Rattle.odd_attributes.specs.declared.att_edit.AttEdit.{AttEdit}
use Rattle.odd_attributes.specs.declared.att_edit.AttEdit.TheVariants.{Set, Change, Delete}
use Rattle.odd_library.specs.declared.library.Component.{Component}
use Rattle.odd_library.specs.declared.library.Library.{Library}
use Rattle.odd_meaning.specs.Links.{class_key}
use Rattle.odd_meaning.specs.Offering.{Clashes, Inherits, Offers, edits_of}
use Rattle.odd_offers.specs.Same.{def_same}
use Rattle.odd_offers.specs.Telling.{is_told}
use Rattle.odd_offers.specs.declared.table.Offer.{Offer}

-- by ident, the offers
abbrev pub Table : Type 0
Table = List (List ℕ × List Offer)

-- the offer is put at the end where it tells something more
abbrev pub added : List Offer → Offer → List Offer
added offers offer = if is_told offers offer then offers else offers ++ offer ∷ []

-- and so is each of some more, the last of them first
abbrev pub added_each : List Offer → List Offer → List Offer
added_each offers [] = offers
added_each offers (offer ∷ more) = added (added_each offers more) offer

-- what stands for the offers of two lists: the first, and of the others those that tell something more; what differs most from the first stands last
abbrev pub offers_joined : List Offer → List Offer → List Offer
offers_joined [] more = more
offers_joined (first ∷ offers) more = added_each (added_each (first ∷ []) more) offers

-- the offers of two tables at one ident
abbrev pub united_at : Option (List Offer) → Option (List Offer) → Option (List Offer)
united_at = joined_at offers_joined

-- the offers of two tables
abbrev pub united : Table → Table → Table
united a b = zipped text_cmp united_at a b

-- the offer with its definition changed by the fields
abbrev pub offer_changed : AttFields → Offer → Offer
offer_changed fields offer = record { def = def_changed fields offer.def; giver = offer.giver }

-- what a class makes of what it inherits, by its own edit
abbrev pub own_at : List ℕ → Option AttEdit → Option (List Offer) → Option (List Offer)
own_at class None offers = offers
own_at class (Some (Set def)) offers = Some (record { def = def; giver = class } ∷ [])
own_at class (Some Delete) offers = None
own_at class (Some (Change fields)) None = None
own_at class (Some (Change fields)) (Some offers) = Some (map (offer_changed fields) offers)

-- the offer is one of these
abbrev pub StandsAt : Option (List Offer) → AttDef → List ℕ → Type 0
StandsAt None def giver = ⊥
StandsAt (Some offers) def giver = StandsIn offers (record { def = def; giver = giver })

-- the table has the offer at the ident
abbrev pub Tells : Table → List ℕ → AttDef → List ℕ → Type 0
Tells table ident def giver = StandsAt (find text_cmp ident table) def giver

-- the change makes all the definitions of these one
abbrev pub MakesOne : AttFields → Option (List Offer) → Type 0
MakesOne fields offers = (one other : AttDef) (giver other_giver : List ℕ) → StandsAt offers one giver → StandsAt offers other other_giver → def_changed fields one ≡ def_changed fields other

-- the offers stand for all that there are: they are such, none of these has a lesser giver than each of them, and a change that makes their definitions one makes
-- all one
pub record StandFor (IsOne : AttDef → List ℕ → Type 0) (offers : Option (List Offer)) : Type 0 where
  pub sound : (def : AttDef) (giver : List ℕ) → StandsAt offers def giver → IsOne def giver
  pub least : (def : AttDef) (giver : List ℕ) → IsOne def giver → (kept : Offer) × StandsAt offers kept.def kept.giver × (text_cmp kept.giver giver ≢ Greater)
  pub apart : (fields : AttFields) → MakesOne fields offers → (def : AttDef) (giver : List ℕ) → IsOne def giver → (kept : AttDef) (kept_giver : List ℕ) → StandsAt offers kept kept_giver
      → def_changed fields def ≡ def_changed fields kept

-- at each ident the table's offers stand for these
abbrev pub StandsFor : (List ℕ → AttDef → List ℕ → Type 0) → Table → Type 0
StandsFor IsOne table = (ident : List ℕ) → StandFor (IsOne ident) (find text_cmp ident table)

-- for what the class offers
abbrev pub IsTableOf : Library → List ℕ → Table → Type 0
IsTableOf library class = StandsFor (λ ident def giver. Offers library (class_key class) ident def (class_key giver))

-- for what the component inherits
abbrev pub IsInherited : Library → Component → Table → Type 0
IsInherited library part = StandsFor (λ ident def giver. Inherits library part ident def (class_key giver))

-- for what these tables have
abbrev pub HaveAll : List Table → Table → Type 0
HaveAll tables = StandsFor (λ ident def giver. (table : Table) × StandsIn tables table × Tells table ident def giver)

-- the table has exactly what the class with these edits makes of what it inherits
abbrev pub IsOwnTable : List ℕ → List (List ℕ × AttEdit) → Table → Table → Type 0
IsOwnTable class edits inherited made = (ident : List ℕ) (def : AttDef) (giver : List ℕ)
    → Tells made ident def giver ↔ StandsAt (own_at class (find text_cmp ident edits) (find text_cmp ident inherited)) def giver

-- the own edit is no Set and no Delete
abbrev pub passes_at : Option AttEdit → Bool
passes_at None = true
passes_at (Some (Set def)) = false
passes_at (Some (Change fields)) = true
passes_at (Some Delete) = false

-- not all definitions are the same
abbrev pub differ : List Offer → Bool
differ [] = false
differ (offer ∷ offers) = list_any (λ other. not (def_same offer.def other.def)) offers

-- the offers of an entry differ, and the own edit does not set or delete what stands at its ident
abbrev pub clashes_with : List (List ℕ × AttEdit) → List ℕ × List Offer → Bool
clashes_with edits entry = differ entry.1 && passes_at (find text_cmp entry.0 edits)

-- it is true just where some attribute clashes, in each component that has these edits and inherits what the table stands for
abbrev pub ClashesBy : List (List ℕ × AttEdit) → Table → Bool → Type 0
ClashesBy edits inherited answer = (library : Library) (part : Component) → edits_of part ≡ edits → IsInherited library part inherited
    → IsTrue answer ↔ ((ident : List ℕ) × Clashes library part ident)
