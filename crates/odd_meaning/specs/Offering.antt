-- What elements and classes offer of attributes: by their own edits, and through the classes that they are members of (TEI Guidelines, the chapter
-- Documentation Elements).
use Rattle.std.specs.Prelude.{◌≡◌, ◌≢◌, ℕ, List, [], Option, Some, None}
use Rattle.std.specs.FinMap.{find}
use Rattle.std.specs.declared.cmp.Ordering.{Ordering}
use Rattle.std.specs.declared.cmp.Ordering.TheVariants.{Greater}
use Rattle.odd_text.specs.Key.{key_cmp}
use Rattle.odd_text.specs.Text.{text_cmp}
use Rattle.odd_text.specs.declared.key.Key.{Key}
use Rattle.odd_text.specs.Standing.{StandsIn}
use Rattle.odd_attributes.specs.Attributes.{def_changed}
use Rattle.odd_attributes.specs.declared.att_def.AttDef.{AttDef}
use Rattle.odd_attributes.specs.declared.att_edit.AttEdit.{AttEdit}
use Rattle.odd_attributes.specs.declared.att_edit.AttEdit.TheVariants.{Set, Change}
use Rattle.odd_attributes.specs.declared.att_edit.AttFields.{AttFields}
use Rattle.odd_library.specs.Odd.{element_key}
use Rattle.odd_library.specs.declared.library.Component.{Component}
use Rattle.odd_library.specs.declared.library.Component.TheVariants as component
use Rattle.odd_library.specs.declared.library.Library.{Library}
use Rattle.odd_meaning.specs.Links.{class_key, memberships}

-- the edits of attributes of a component, by ident: only elements and classes have some
abbrev pub edits_of : Component → List (List ℕ × AttEdit)
edits_of (component.Element part) = part.atts
edits_of (component.Class part) = part.atts
edits_of (component.Macro part) = []
edits_of (component.Datatype part) = []

-- what a class offers, with the own edit of the attribute, if any, laid over; no such edit is a Set or a Delete
pub data Passes : Option AttEdit → AttDef → AttDef → Type 0 where
  as_it_is : {def : AttDef} → Passes None def def
  changed : (fields : AttFields) {def : AttDef} → Passes (Some (Change fields)) def (def_changed fields def)

-- the least relation in which the holder of a key offers what it sets itself, and what a held class among its memberships offers; the giver is the holder
-- of the Set at the bottom
pub data Offers (library : Library) : Key → List ℕ → AttDef → Key → Type 0 where
  own : {holder : Key} {ident : List ℕ} {def : AttDef} (part : Component) → find key_cmp holder library.parts ≡ Some part → find text_cmp ident (edits_of part) ≡ Some (Set def)
      → Offers library holder ident def holder
  inherited : {holder giver : Key} {ident : List ℕ} {def : AttDef} (part : Component) (class : List ℕ) (before : AttDef) → find key_cmp holder library.parts ≡ Some part
      → StandsIn (memberships part) class → Offers library (class_key class) ident before giver → Passes (find text_cmp ident (edits_of part)) before def
      → Offers library holder ident def giver

-- a held class among the memberships of the component offers it
pub record Inherits (library : Library) (part : Component) (ident : List ℕ) (def : AttDef) (giver : Key) : Type 0 where
  pub class : List ℕ
  pub among : StandsIn (memberships part) class
  pub offered : Offers library (class_key class) ident def giver

-- the component neither sets nor deletes the attribute, and two different definitions of it are offered through its memberships
pub record Clashes (library : Library) (part : Component) (ident : List ℕ) : Type 0 where
  pub one : AttDef
  pub other : AttDef
  pub giver : Key
  pub other_giver : Key
  pub passes : (def : AttDef) × Passes (find text_cmp ident (edits_of part)) one def
  pub first : Inherits library part ident one giver
  pub second : Inherits library part ident other other_giver
  pub differ : one ≢ other

-- by ident
abbrev pub offer_cmp : List ℕ × AttDef → List ℕ × AttDef → Ordering
offer_cmp one other = text_cmp one.0 other.0

-- an element offers the attribute with the definition, whoever gives it
abbrev pub OffersOne : Library → List ℕ → List ℕ × AttDef → Type 0
OffersOne library element (ident, def) = (giver : Key) × Offers library (element_key element) ident def giver

-- of several givers the least; none where the element sets the attribute itself
abbrev pub giver_key : List ℕ → Option (List ℕ) → Key
giver_key element None = element_key element
giver_key element (Some class) = class_key class

-- the element offers the attribute, and no lesser giver gives it
pub record IsOfferOf (library : Library) (element ident : List ℕ) (def : AttDef) (giver : Option (List ℕ)) : Type 0 where
  pub offered : Offers library (element_key element) ident def (giver_key element giver)
  pub least : (other_def : AttDef) (other : Key) → Offers library (element_key element) ident other_def other → key_cmp (giver_key element giver) other ≢ Greater
