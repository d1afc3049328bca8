-- Which values data content and attributes admit (TEI Guidelines, the chapter Documentation Elements; XML Schema, Part 2). No pattern of a schema is spoken of.
use Rattle.std.specs.Prelude.{◌≡◌, ◌≢◌, ◌⊎◌, ℕ, zero, suc, List, length, Option, Some, None, All}
use Rattle.std.specs.FinMap.{find}
use Rattle.std.specs.Str.{chars}
use Rattle.odd_text.specs.Key.{key_cmp}
use Rattle.odd_text.specs.Standing.{StandsIn}
use Rattle.rng_types.specs.Words.{words_of}
use Rattle.rng_types.specs.declared.bounds.Bounds.{Bounds}
use Rattle.rng_types.specs.declared.facet.Facet.{Facet}
use Rattle.rng_types.specs.declared.item.Item.{Item}
use Rattle.rng_types.specs.declared.item.Item.TheVariants as item
use Rattle.rng_types.specs.declared.val_list.ListKind.TheVariants as listing
use Rattle.rng_types.specs.declared.val_list.ValList.{ValList}
use Rattle.rng_values.specs.Facets.{Meets}
use Rattle.rng_values.specs.Lexical.{Fits}
use Rattle.rng_values.specs.Treated.{collapsed, treated}
use Rattle.odd_attributes.specs.declared.att_def.AttDef.{AttDef}
use Rattle.odd_attributes.specs.declared.att_def.Datatype.{Datatype}
use Rattle.odd_content.specs.Formed.{once}
use Rattle.odd_content.specs.declared.content.Content.{Content, Empty, Text, Value, Vals, Element, Class, Macro, Any, Sequence', Alternate', Row_of-Content, end_of-Content, more_of-Content}
use Rattle.odd_library.specs.declared.library.Component.TheVariants as component
use Rattle.odd_library.specs.declared.library.Library.{Library}
use Rattle.odd_library.specs.declared.library.OtherPart.{OtherPart}
use Rattle.odd_meaning.specs.Contents.{IsWithin}
use Rattle.odd_meaning.specs.Links.{datatype_key, macro_key}

-- the characters are those of one of the values, once white space is collapsed
abbrev pub IsOneOf : List (List ℕ) → List ℕ → Type 0
IsOneOf values cs = (value : List ℕ) × StandsIn values value × (chars value ≡ collapsed cs)

-- a list that is not closed restricts nothing
abbrev pub IsListed : ValList → List ℕ → Type 0
IsListed list cs = (list.kind ≢ listing.Closed) ⊎ IsOneOf list.values cs

-- what is said of the values of datatypes, or of macros, by their idents
abbrev pub OfNames : Type 1
OfNames = List ℕ → List ℕ → Type 0

-- characters of a datatype that meet its facets, or what the datatype of a key admits
abbrev pub IsItemBy : OfNames → Item → List ℕ → Type 0
IsItemBy datatypes (item.Typed k facets) cs = Fits k cs × ((f : Facet) → StandsIn facets f → Meets f (treated k cs))
IsItemBy datatypes (item.Key key) cs = datatypes key cs

abbrev mutual
  -- what data content admits as one value, where these are the values of datatypes and of macros
  pub IsValueBy : OfNames → OfNames → Content → List ℕ → Type 0
  IsValueBy datatypes macros (Value i) cs = IsItemBy datatypes i cs
  IsValueBy datatypes macros (Vals list) cs = IsListed list cs
  IsValueBy datatypes macros (Macro key b) cs = macros key cs
  IsValueBy datatypes macros (Alternate' shape parts b) cs = IsOneValueBy datatypes macros parts cs
  IsValueBy datatypes macros Empty cs = ⊥
  IsValueBy datatypes macros Text cs = ⊥
  IsValueBy datatypes macros (Element key b) cs = ⊥
  IsValueBy datatypes macros (Class key p b) cs = ⊥
  IsValueBy datatypes macros (Any c b) cs = ⊥
  IsValueBy datatypes macros (Sequence' shape parts b) cs = ⊥

  -- what one of the parts admits
  pub IsOneValueBy : {n : _} → OfNames → OfNames → Row_of-Content n → List ℕ → Type 0
  IsOneValueBy datatypes macros end_of-Content cs = ⊥
  IsOneValueBy datatypes macros (more_of-Content part parts) cs = IsValueBy datatypes macros part cs ⊎ IsOneValueBy datatypes macros parts cs

-- a datatype names no macro
abbrev pub no_macros : OfNames
no_macros key cs = ⊥

-- a held datatype admits what its content does, down to so many datatypes in one another
abbrev pub DatatypeAdmits : ℕ → Library → OfNames
DatatypeAdmits zero library key cs = ⊥
DatatypeAdmits (suc levels) library key cs =
    (part : OtherPart) × (find key_cmp (datatype_key key) library.parts ≡ Some (component.Datatype part)) × IsValueBy (DatatypeAdmits levels library) no_macros part.content cs

-- which is the least such relation
abbrev pub IsOfDatatype : Library → OfNames
IsOfDatatype library key cs = (levels : ℕ) × DatatypeAdmits levels library key cs

-- and so do macros
abbrev pub MacroHasValue : ℕ → Library → OfNames
MacroHasValue zero library key cs = ⊥
MacroHasValue (suc levels) library key cs =
    (part : OtherPart) × (find key_cmp (macro_key key) library.parts ≡ Some (component.Macro part)) × IsValueBy (IsOfDatatype library) (MacroHasValue levels library) part.content cs

abbrev pub IsValueOfMacro : Library → OfNames
IsValueOfMacro library key cs = (levels : ℕ) × MacroHasValue levels library key cs

abbrev pub IsDataValue : Library → Content → List ℕ → Type 0
IsDataValue library = IsValueBy (IsOfDatatype library) (IsValueOfMacro library)

abbrev pub IsValueOf : Library → Item → List ℕ → Type 0
IsValueOf library = IsItemBy (IsOfDatatype library)

-- the item of a datatype, where there is one
abbrev pub IsOfItem : Library → Option Datatype → List ℕ → Type 0
IsOfItem library None cs = Unit {0}
IsOfItem library (Some datatype) cs = IsValueOf library datatype.item cs

-- a closed list takes the place of the item
abbrev pub IsPiece : Library → Option Datatype → Option ValList → List ℕ → Type 0
IsPiece library datatype None cs = IsOfItem library datatype cs
IsPiece library datatype (Some list) cs =
    ((list.kind ≡ listing.Closed) × IsOneOf list.values cs) ⊎ ((list.kind ≢ listing.Closed) × IsOfItem library datatype cs)

-- bounds that are not given are 1 and 1
abbrev pub bounds_of : Option Datatype → Bounds
bounds_of None = once
bounds_of (Some datatype) = datatype.bounds

-- once the whole value is tested, and else each of its words, of which there are as many as the bounds say
pub data IsAdmittedValue (library : Library) (def : AttDef) (text : List ℕ) : Type 0 where
  whole : bounds_of def.datatype ≡ once → IsPiece library def.datatype def.vals (chars text) → IsAdmittedValue library def text
  words : bounds_of def.datatype ≢ once → IsWithin (bounds_of def.datatype) (length (words_of (chars text))) → All (IsPiece library def.datatype def.vals) (words_of (chars text))
      → IsAdmittedValue library def text
