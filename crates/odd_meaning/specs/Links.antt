-- What components refer to: the classes that they are said to be members of, and what their contents and their attributes name.
use Rattle.std.specs.Prelude.{◌≡◌, ℕ, List, [], ◌∷◌, ◌++◌, filter, flat_map, map, Bool, true, false, Option, Some, None, IsSome}
use Rattle.std.specs.FinMap.{find}
use Rattle.odd_text.specs.Key.{key_cmp}
use Rattle.odd_text.specs.declared.key.Key.{Key}
use Rattle.odd_text.specs.declared.key.Kind.{Kind}
use Rattle.odd_text.specs.declared.key.Kind.TheVariants as kind
use Rattle.odd_text.specs.Standing.{StandsIn}
use Rattle.rng_types.specs.declared.item.Item.{Item}
use Rattle.rng_types.specs.declared.item.Item.TheVariants as item
use Rattle.odd_attributes.specs.declared.att_def.Datatype.{Datatype}
use Rattle.odd_attributes.specs.declared.att_edit.AttEdit.{AttEdit}
use Rattle.odd_attributes.specs.declared.att_edit.AttEdit.TheVariants as edit
use Rattle.odd_content.specs.declared.content.Content.{Content, Empty, Text, Value, Vals, Element, Class, Macro, Any, Sequence', Alternate', Row_of-Content, end_of-Content, more_of-Content}
use Rattle.odd_library.specs.Odd.{element_key}
use Rattle.odd_library.specs.declared.library.Component.{Component}
use Rattle.odd_library.specs.declared.library.Component.TheVariants as component
use Rattle.odd_library.specs.declared.library.Library.{Library}

abbrev pub class_key : List ℕ → Key
class_key ident = record { kind = kind.Class; ident = ident }

abbrev pub macro_key : List ℕ → Key
macro_key ident = record { kind = kind.Macro; ident = ident }

abbrev pub datatype_key : List ℕ → Key
datatype_key ident = record { kind = kind.Datatype; ident = ident }

-- the library holds a component at the key
abbrev pub IsHeld : Library → Key → Type 0
IsHeld library key = IsSome (find key_cmp key library.parts)

-- the classes that a component is said to be a member of, as an element or a class is
abbrev pub memberships : Component → List (List ℕ)
memberships (component.Element part) = part.classes
memberships (component.Class part) = part.classes
memberships (component.Macro part) = []
memberships (component.Datatype part) = []

-- the datatype that an item names
abbrev pub named_by_item : Item → List Key
named_by_item (item.Key key) = datatype_key key ∷ []
named_by_item (item.Typed k facets) = []

-- the one that a datatype of an attribute names
abbrev pub named_by_datatype : Option Datatype → List Key
named_by_datatype None = []
named_by_datatype (Some d) = named_by_item d.item

-- the one that an own Set or Change of an attribute names
abbrev pub named_by_edit : AttEdit → List Key
named_by_edit (edit.Set def) = named_by_datatype def.datatype
named_by_edit (edit.Change fields) = named_by_datatype fields.datatype
named_by_edit edit.Delete = []

-- those that the edits of attributes name
abbrev pub named_by_edits : List (List ℕ × AttEdit) → List Key
named_by_edits = flat_map (λ e. named_by_edit e.1)

abbrev mutual
  -- what a content names, at any depth
  pub named_in : Content → List Key
  named_in Empty = []
  named_in Text = []
  named_in (Value item) = named_by_item item
  named_in (Vals list) = []
  named_in (Element key b) = element_key key ∷ []
  named_in (Class key p b) = class_key key ∷ []
  named_in (Macro key b) = macro_key key ∷ []
  named_in (Any c b) = []
  named_in (Sequence' shape parts b) = named_in_parts parts
  named_in (Alternate' shape parts b) = named_in_parts parts

  pub named_in_parts : {n : _} → Row_of-Content n → List Key
  named_in_parts end_of-Content = []
  named_in_parts (more_of-Content part parts) = named_in part ++ named_in_parts parts

-- what a component names, in its content and in its edits of attributes
abbrev pub named_by : Component → List Key
named_by (component.Element part) = named_in part.content ++ named_by_edits part.atts
named_by (component.Class part) = named_by_edits part.atts
named_by (component.Macro part) = named_in part.content
named_by (component.Datatype part) = named_in part.content

abbrev pub is_macro : Kind → Bool
is_macro kind.Element = false
is_macro kind.Class = false
is_macro kind.Macro = true
is_macro kind.Datatype = false

abbrev pub is_datatype : Kind → Bool
is_datatype kind.Element = false
is_datatype kind.Class = false
is_datatype kind.Macro = false
is_datatype kind.Datatype = true

-- the keys of those classes, and those of the macros and of the datatypes that a component names
abbrev pub classes_of : Component → List Key
classes_of part = map class_key (memberships part)

abbrev pub macros_of : Component → List Key
macros_of part = filter (λ key. is_macro key.kind) (named_by part)

abbrev pub datatypes_of : Component → List Key
datatypes_of part = filter (λ key. is_datatype key.kind) (named_by part)

-- a held component has the key of another held one among these
pub record IsLinked (keys_of : Component → List Key) (library : Library) (key other : Key) : Type 0 where
  pub part : Component
  pub held : find key_cmp key library.parts ≡ Some part
  pub among : StandsIn (keys_of part) other
  pub other_held : IsHeld library other
