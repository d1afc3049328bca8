-- The offences of a library, each of the component at a key: rule 11, its content names a macro that is not held; 12, its content or an attribute that it sets
-- or changes names a datatype that is not held; 13, a class is a member of itself; 14, a macro or a datatype reaches itself; 15, an element inherits different
-- definitions of an attribute that it does not itself set or delete; 16, two attributes of an element have one name in documents; 17, its content names a class
-- of attributes; 18, the content of an element or a macro reaches data and is not data content.
use Rattle.std.specs.Prelude.{◌≡◌, ◌≢◌, ◌⊎◌, ◌<◌, ◌≤◌, ℕ, true, List, Some}
use Rattle.std.specs.FinMap.{find}
use Rattle.std.specs.declared.cmp.Ordering.TheVariants.{Greater}
use Rattle.odd_text.specs.Key.{key_cmp}
use Rattle.odd_text.specs.declared.key.Key.{Key}
use Rattle.odd_text.specs.Standing.{StandsIn}
use Rattle.odd_attributes.specs.declared.att_def.AttDef.{AttDef}
use Rattle.odd_graph.specs.Graph.{Chained}
use Rattle.odd_library.specs.declared.library.ClassPart.{ClassPart}
use Rattle.odd_library.specs.declared.library.Component.{Component}
use Rattle.odd_library.specs.declared.library.Component.TheVariants as component
use Rattle.odd_library.specs.declared.library.Library.{Library}
use Rattle.odd_meaning.specs.Classes.{IsMember, Reaches}
use Rattle.odd_library.specs.Odd.{element_key}
use Rattle.odd_meaning.specs.Data.{IsMixed}
use Rattle.odd_meaning.specs.Links.{IsHeld, class_key, datatype_key, datatypes_of, IsLinked, macro_key, named_by}
use Rattle.odd_meaning.specs.Naming.{attribute_name}
use Rattle.odd_meaning.specs.Offering.{Clashes, Offers}

-- what is held at the key names the other key
pub record Names (library : Library) (key other : Key) : Type 0 where
  pub part : Component
  pub held : find key_cmp key library.parts ≡ Some part
  pub among : StandsIn (named_by part) other

-- what is held at the key is a class of type `atts`
pub record IsOfAttributes (library : Library) (ident : List ℕ) : Type 0 where
  pub part : ClassPart
  pub held : find key_cmp (class_key ident) library.parts ≡ Some (component.Class part)
  pub gives : part.gives ≡ true

-- a held datatype reaches each held datatype that its content names, and each that such a datatype reaches
abbrev pub ReachesDatatype : Library → List ℕ → List ℕ → Type 0
ReachesDatatype library one other = Chained (IsLinked datatypes_of library) (datatype_key one) (datatype_key other)

-- an element inherits different definitions of an attribute that it does not itself set or delete
pub record Contradicts (library : Library) (element : List ℕ) : Type 0 where
  pub part : Component
  pub held : find key_cmp (element_key element) library.parts ≡ Some part
  pub ident : List ℕ
  pub clashes : Clashes library part ident

-- it offers attributes of two idents that have one name in documents
pub record SharesName (library : Library) (element : List ℕ) : Type 0 where
  pub one : List ℕ
  pub other : List ℕ
  pub def : AttDef
  pub other_def : AttDef
  pub giver : Key
  pub other_giver : Key
  pub offered : Offers library (element_key element) one def giver
  pub other_offered : Offers library (element_key element) other other_def other_giver
  pub apart : one ≢ other
  pub same : attribute_name one def ≡ attribute_name other other_def

pub data Breaks (library : Library) : Key → ℕ → Type 0 where
  macro_not_held : {key : Key} (ident : List ℕ) → Names library key (macro_key ident) → (IsHeld library (macro_key ident) → ⊥) → Breaks library key 11
  datatype_not_held : {key : Key} (ident : List ℕ) → Names library key (datatype_key ident) → (IsHeld library (datatype_key ident) → ⊥) → Breaks library key 12
  own_member : (ident : List ℕ) → IsMember library ident (class_key ident) → Breaks library (class_key ident) 13
  reaches_itself : (ident : List ℕ) → Reaches library ident ident → Breaks library (macro_key ident) 14
  datatype_reaches_itself : (ident : List ℕ) → ReachesDatatype library ident ident → Breaks library (datatype_key ident) 14
  contradicts : (ident : List ℕ) → Contradicts library ident → Breaks library (element_key ident) 15
  shares_name : (ident : List ℕ) → SharesName library ident → Breaks library (element_key ident) 16
  of_attributes : {key : Key} (ident : List ℕ) → Names library key (class_key ident) → IsOfAttributes library ident → Breaks library key 17
  mixes_data : {key : Key} → IsMixed library key → Breaks library key 18

-- an element breaks one of the rules on what it offers: it reaches a class that is a member of itself, or one of the two above
pub data BreaksOffering (library : Library) (element : List ℕ) : ℕ → Type 0 where
  reaches_loop : (class : List ℕ) → IsMember library class (element_key element) → IsMember library class (class_key class) → BreaksOffering library element 13
  has_clash : Contradicts library element → BreaksOffering library element 15
  has_one_name : SharesName library element → BreaksOffering library element 16

-- of these the least
pub record IsLeastOffering (library : Library) (element : List ℕ) (rule : ℕ) : Type 0 where
  pub is_one : BreaksOffering library element rule
  pub least : (other : ℕ) → BreaksOffering library element other → rule ≤ other

-- by one of the rules from the first to the last
abbrev pub BreaksWithin : ℕ → ℕ → Library → Key → ℕ → Type 0
BreaksWithin first last library key rule = Breaks library key rule × (first ≤ rule) × (rule ≤ last)

-- by one of the rules on cycles
abbrev pub BreaksByCycle : Library → Key → ℕ → Type 0
BreaksByCycle = BreaksWithin 13 14

-- by rule, and then by kind and ident
abbrev pub IsNotBehind : ℕ → Key → ℕ → Key → Type 0
IsNotBehind rule key others_rule other = (rule < others_rule) ⊎ ((rule ≡ others_rule) × (key_cmp key other ≢ Greater))

-- of the offences of a library the first
pub record IsFirstBreak (HasOne : Key → ℕ → Type 0) (key : Key) (rule : ℕ) : Type 0 where
  pub is_one : HasOne key rule
  pub first : (other : Key) (others_rule : ℕ) → HasOne other others_rule → IsNotBehind rule key others_rule other
