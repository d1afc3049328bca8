-- What the private functions of this crate keep: the places of keys among the entries of a library, and its graph by a link.
use Rattle.std.specs.Prelude.{◌≡◌, ◌≢◌, ◌↔◌, ℕ, Bool, false, true, filter, List, Option, Some, None, length, slice_get}
use Rattle.std.specs.List.{Contains}
use Rattle.std.specs.declared.cmp.Ordering.TheVariants.{Greater}
use Rattle.odd_text.specs.Key.{key_cmp}
use Rattle.odd_text.specs.declared.key.Key.{Key}
use Rattle.odd_graph.specs.Graph.{Chained, HasArrow, Leads}
use Rattle.odd_text.specs.Standing.{StandsIn}
use Rattle.odd_attributes.specs.declared.att_def.Datatype.{Datatype}
use Rattle.odd_attributes.specs.declared.att_edit.AttEdit.{AttEdit}
use Rattle.odd_attributes.specs.declared.att_edit.AttEdit.TheVariants as edit
use Rattle.odd_library.specs.Odd.{element_key}
use Rattle.odd_library.specs.declared.library.Component.{Component}
use Rattle.odd_library.specs.declared.library.Component.TheVariants as component
use Rattle.odd_library.specs.declared.library.ElementPart.{ElementPart}
use Rattle.odd_library.specs.declared.library.Library.{Library}
use Rattle.odd_meaning.specs.Links.{IsHeld, IsLinked, class_key, classes_of, datatype_key, datatypes_of, is_datatype, is_macro, macro_key, macros_of}
use Rattle.odd_meaning.specs.Rules.{IsOfAttributes, Names}
use Rattle.odd_text.specs.declared.key.Kind.{Kind}
use Rattle.odd_text.specs.declared.key.Kind.TheVariants as kind
use Rattle.odd_classes.specs.declared.cycles.CycleRefusal.{CycleRefusal}
use Rattle.odd_classes.specs.declared.cycles.CycleRefusal.TheVariants as cycle
use Rattle.odd_classes.specs.declared.rules.LibraryRefusal.{LibraryRefusal}
use Rattle.odd_classes.specs.declared.rules.LibraryRefusal.TheVariants as refusal
use Rattle.odd_classes.specs.declared.links.Link.{Link}
use Rattle.odd_classes.specs.declared.links.Link.TheVariants as link
use Rattle.odd_classes.specs.declared.rules.WrongReference.{WrongReference}
use Rattle.odd_classes.specs.declared.rules.WrongReference.TheVariants as wrong

-- the keys that a component names by a link
abbrev pub keys_by : Link → Component → List Key
keys_by link.Classes part = classes_of part
keys_by link.Macros part = macros_of part
keys_by link.Datatypes part = datatypes_of part

-- the first kind is the second
abbrev pub is_of_kind : Kind → Kind → Bool
is_of_kind kind.Macro k = is_macro k
is_of_kind kind.Datatype k = is_datatype k
is_of_kind kind.Element kind.Element = true
is_of_kind kind.Class kind.Class = true
is_of_kind wanted k = false

-- the keys that are of a kind
abbrev pub those_of : Kind → List Key → List Key
those_of wanted keys = filter (λ key. is_of_kind wanted key.kind) keys

-- the datatype that an edit of an attribute gives
abbrev pub datatype_in : AttEdit → Option Datatype
datatype_in (edit.Set def) = def.datatype
datatype_in (edit.Change fields) = fields.datatype
datatype_in edit.Delete = None

-- the rule that forbids a reference
abbrev pub rule_of : WrongReference → ℕ
rule_of wrong.MacroNotHeld = 11
rule_of wrong.DatatypeNotHeld = 12
rule_of wrong.OfAttributes = 17

-- the kind of what it is to
abbrev pub kind_of : WrongReference → Kind
kind_of wrong.MacroNotHeld = kind.Macro
kind_of wrong.DatatypeNotHeld = kind.Datatype
kind_of wrong.OfAttributes = kind.Class

-- a cycle, as an offence of a library
abbrev pub as_library : CycleRefusal → LibraryRefusal
as_library (cycle.Loop key rule) = refusal.Rule key rule
as_library cycle.NoMemory = refusal.NoMemory

-- the component at the key leads to itself by a link
abbrev pub LeadsToItself : Link → Library → Key → Type 0
LeadsToItself link library key = Chained (IsLinked (keys_by link) library) key key

-- the entry at a place has the key and the component
abbrev pub IsEntryAt : List (Key × Component) → ℕ → Key → Component → Type 0
IsEntryAt entries place key part = slice_get entries place ≡ Some (key, part)

-- the entry at a place has the key
abbrev pub IsPlaceOf : List (Key × Component) → ℕ → Key → Type 0
IsPlaceOf entries place key = (part : Component) × IsEntryAt entries place key part

-- the ident is that of the entry at a place
abbrev pub IsIdentAt : List (Key × Component) → List ℕ → ℕ → Type 0
IsIdentAt entries ident place = (key : Key) × IsPlaceOf entries place key × (key.ident ≡ ident)

-- the nodes are the places of those of the keys that have one
abbrev pub ArePlacesOf : List (Key × Component) → List Key → List ℕ → Type 0
ArePlacesOf entries keys nodes = (place : ℕ) → Contains nodes place ↔ ((key : Key) × StandsIn keys key × IsPlaceOf entries place key)

-- an arrow leads from an entry to each that it names by the link
pub record IsGraphOf (keys_of : Component → List Key) (entries : List (Key × Component)) (arrows : List (List ℕ)) : Type 0 where
  pub as_many : length arrows ≡ length entries
  pub leads : (place next : ℕ) (key other : Key) (part otherpart : Component) → IsEntryAt entries place key part → IsEntryAt entries next other otherpart
      → HasArrow arrows place next ↔ StandsIn (keys_of part) other

-- the same with its arrows turned round
pub record IsTurnedGraphOf (keys_of : Component → List Key) (entries : List (Key × Component)) (back : List (List ℕ)) : Type 0 where
  pub arrows : List (List ℕ)
  pub graph : IsGraphOf keys_of entries arrows
  pub turned : (node next : ℕ) → HasArrow back next node ↔ HasArrow arrows node next

-- the element has a place that this one leads to
abbrev pub IsReachedFrom : List (Key × Component) → List (List ℕ) → ℕ → List ℕ → Type 0
IsReachedFrom entries arrows place ident = (from : ℕ) × (part : ElementPart) × IsEntryAt entries from (element_key ident) (component.Element part) × Leads arrows place from

-- a component may not name the key
abbrev pub IsWrong : Library → WrongReference → Key → Type 0
IsWrong library wrong.MacroNotHeld key = (ident : List ℕ) × (key ≡ macro_key ident) × (IsHeld library key → ⊥)
IsWrong library wrong.DatatypeNotHeld key = (ident : List ℕ) × (key ≡ datatype_key ident) × (IsHeld library key → ⊥)
IsWrong library wrong.OfAttributes key = (ident : List ℕ) × (key ≡ class_key ident) × IsOfAttributes library ident

-- what is held at the key names such a key
abbrev pub NamesWrongly : Library → WrongReference → Key → Type 0
NamesWrongly library w key = (other : Key) × Names library key other × IsWrong library w other

-- of those that are such the first
pub record IsFirstAmong (Is : Key → Type 0) (key : Key) : Type 0 where
  pub is_one : Is key
  pub first : (other : Key) → Is other → key_cmp key other ≢ Greater
