-- Data content, which admits a text as one value, and contents that reach data at all (TEI Guidelines, the chapter Documentation Elements).
use Rattle.std.specs.Prelude.{◌≡◌, ◌⊎◌, ℕ, zero, suc, List, Option, Some, None}
use Rattle.std.specs.FinMap.{find}
use Rattle.odd_text.specs.Key.{key_cmp}
use Rattle.odd_text.specs.declared.key.Key.{Key}
use Rattle.odd_content.specs.Formed.{once}
use Rattle.odd_content.specs.declared.content.Content.{Content, Empty, Text, Value, Vals, Element, Class, Macro, Any, Sequence', Alternate', Row_of-Content, end_of-Content, more_of-Content}
use Rattle.odd_library.specs.declared.library.Component.{Component}
use Rattle.odd_library.specs.declared.library.Component.TheVariants as component
use Rattle.odd_library.specs.declared.library.Library.{Library}
use Rattle.odd_library.specs.declared.library.OtherPart.{OtherPart}
use Rattle.odd_meaning.specs.Links.{macro_key}

-- what is said of macros by their idents
abbrev pub OfMacros : Type 1
OfMacros = List ℕ → Type 0

-- there is a part
abbrev pub HasPart : {n : _} → Row_of-Content n → Type 0
HasPart end_of-Content = ⊥
HasPart (more_of-Content part parts) = Unit {0}

abbrev mutual
  -- data content, where these macros are: an item, a list of values, one of several data contents, a macro once
  pub IsDataBy : OfMacros → Content → Type 0
  IsDataBy macros (Value item) = Unit {0}
  IsDataBy macros (Vals list) = Unit {0}
  IsDataBy macros (Macro key b) = (b ≡ once) × macros key
  IsDataBy macros (Alternate' shape parts b) = (b ≡ once) × HasPart parts × AreDataBy macros parts
  IsDataBy macros Empty = ⊥
  IsDataBy macros Text = ⊥
  IsDataBy macros (Element key b) = ⊥
  IsDataBy macros (Class key p b) = ⊥
  IsDataBy macros (Any c b) = ⊥
  IsDataBy macros (Sequence' shape parts b) = ⊥

  pub AreDataBy : {n : _} → OfMacros → Row_of-Content n → Type 0
  AreDataBy macros end_of-Content = Unit {0}
  AreDataBy macros (more_of-Content part parts) = IsDataBy macros part × AreDataBy macros parts

abbrev mutual
  -- an item or a list of values stands in the content at any depth, or a macro that reaches data
  pub ReachesBy : OfMacros → Content → Type 0
  ReachesBy macros (Value item) = Unit {0}
  ReachesBy macros (Vals list) = Unit {0}
  ReachesBy macros (Macro key b) = macros key
  ReachesBy macros (Sequence' shape parts b) = OneReachesBy macros parts
  ReachesBy macros (Alternate' shape parts b) = OneReachesBy macros parts
  ReachesBy macros Empty = ⊥
  ReachesBy macros Text = ⊥
  ReachesBy macros (Element key b) = ⊥
  ReachesBy macros (Class key p b) = ⊥
  ReachesBy macros (Any c b) = ⊥

  pub OneReachesBy : {n : _} → OfMacros → Row_of-Content n → Type 0
  OneReachesBy macros end_of-Content = ⊥
  OneReachesBy macros (more_of-Content part parts) = ReachesBy macros part ⊎ OneReachesBy macros parts

-- a held macro is such whose content is, down to so many macros in one another
abbrev pub IsWithin : (OfMacros → Content → Type 0) → ℕ → Library → OfMacros
IsWithin By zero library key = ⊥
IsWithin By (suc levels) library key = (part : OtherPart) × (find key_cmp (macro_key key) library.parts ≡ Some (component.Macro part)) × By (IsWithin By levels library) part.content

-- the least set of macros that are such
abbrev pub IsLeast : (OfMacros → Content → Type 0) → Library → OfMacros
IsLeast By library key = (levels : ℕ) × IsWithin By levels library key

abbrev pub IsDataContent : Library → Content → Type 0
IsDataContent library = IsDataBy (IsLeast IsDataBy library)

abbrev pub ReachesData : Library → Content → Type 0
ReachesData library = ReachesBy (IsLeast ReachesBy library)

-- the content of an element or a macro
abbrev pub own_content : Component → Option Content
own_content (component.Element part) = Some part.content
own_content (component.Class part) = None
own_content (component.Macro part) = Some part.content
own_content (component.Datatype part) = None

-- the content of the element or macro that is held at the key reaches data and is not data content
pub record IsMixed (library : Library) (key : Key) : Type 0 where
  pub part : Component
  pub content : Content
  pub held : find key_cmp key library.parts ≡ Some part
  pub own : own_content part ≡ Some content
  pub reaches : ReachesData library content
  pub mixed : IsDataContent library content → ⊥
