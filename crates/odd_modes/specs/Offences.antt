-- The offences of a file against the library before it: rule 5, what is added was chosen; 6, what is changed, deleted or replaced was not chosen, or what is
-- referred to is not held; 7, no component is of the module; 8, `include` or `except` names no element of the module; 9, a class that is changed is given
-- another type.
use Rattle.std.specs.Prelude.{◌≡◌, ◌≢◌, ℕ, Bool, List, [], Some, None}
use Rattle.std.specs.FinMap.{find}
use Rattle.odd_text.specs.Key.{key_cmp}
use Rattle.odd_text.specs.declared.key.Key.{Key}
use Rattle.odd_text.specs.declared.offence.Offence.{Offence}
use Rattle.odd_text.specs.declared.offence.Who.TheVariants as who
use Rattle.odd_text.specs.Standing.{StandsIn}
use Rattle.odd_content.specs.declared.content.Pick.{Pick}
use Rattle.odd_content.specs.declared.content.Pick.TheVariants as pick
use Rattle.odd_library.specs.Odd.{element_key, place_of}
use Rattle.odd_library.specs.First.{IsFirstOf}
use Rattle.odd_library.specs.Library.{module_of}
use Rattle.odd_library.specs.declared.library.ClassPart.{ClassPart}
use Rattle.odd_library.specs.declared.library.Component.{Component}
use Rattle.odd_library.specs.declared.library.Component.TheVariants as component
use Rattle.odd_library.specs.declared.library.Library.{Library}
use Rattle.odd_library.specs.declared.odd.Entry.{Entry}
use Rattle.odd_library.specs.declared.odd.Entry.TheVariants as entry
use Rattle.odd_library.specs.declared.odd.OddDoc.{OddDoc}
use Rattle.odd_library.specs.declared.spec.Mode.TheVariants as mode
use Rattle.odd_library.specs.declared.spec.Spec.{Spec}
use Rattle.odd_modes.specs.Choosing.{IsChosen}

-- nothing is held at the key
abbrev pub IsAbsent : Library → Key → Type 0
IsAbsent library key = find key_cmp key library.parts ≡ None

-- a component of the module is held at the key
abbrev pub IsOfModule : Library → List ℕ → Key → Type 0
IsOfModule library name key = (part : Component) × (find key_cmp key library.parts ≡ Some part) × (module_of part ≡ name)

-- the words of `include` or `except`
abbrev pub words_in : Pick → List (List ℕ)
words_in pick.All = []
words_in (pick.Include words) = words
words_in (pick.Except words) = words

-- what a reference breaks
pub data ReferenceFault (library : Library) : Entry → ℕ → Type 0 where
  not_held : {at : ℕ} {key : Key} → IsAbsent library key → ReferenceFault library (entry.Take at key) 6
  no_module : {at : ℕ} {name : List ℕ} {p : Pick} → ((key : Key) → IsOfModule library name key → ⊥) → ReferenceFault library (entry.Module at name p) 7
  no_element : {at : ℕ} {name : List ℕ} {p : Pick} (word : List ℕ) → StandsIn (words_in p) word → (IsOfModule library name (element_key word) → ⊥)
      → ReferenceFault library (entry.Module at name p) 8

-- a class is held at the key of the declaration, which gives it another type
pub record GivesAnotherType (library : Library) (spec : Spec) : Type 0 where
  pub part : ClassPart
  pub held : find key_cmp spec.key library.parts ≡ Some (component.Class part)
  pub gives : Bool
  pub given : spec.gives ≡ Some gives
  pub another : gives ≢ part.gives

-- what a declaration breaks
pub data SpecFault (library : Library) (doc : OddDoc) : Entry → ℕ → Type 0 where
  chosen : {at : ℕ} {spec : Spec} → spec.mode ≡ mode.Add → IsChosen library doc spec.key → SpecFault library doc (entry.Spec at spec) 5
  not_chosen : {at : ℕ} {spec : Spec} → spec.mode ≢ mode.Add → (IsChosen library doc spec.key → ⊥) → SpecFault library doc (entry.Spec at spec) 6
  another_type : {at : ℕ} {spec : Spec} → spec.mode ≡ mode.Change → IsChosen library doc spec.key → GivesAnotherType library spec → SpecFault library doc (entry.Spec at spec) 9

-- what an item breaks
pub data ItemFault (library : Library) (doc : OddDoc) : Entry → ℕ → Type 0 where
  reference : {e : Entry} {rule : ℕ} → ReferenceFault library e rule → ItemFault library doc e rule
  spec : {e : Entry} {rule : ℕ} → SpecFault library doc e rule → ItemFault library doc e rule

-- an item has such a fault at the place where it begins
pub record OffendsAt (Fault : Entry → ℕ → Type 0) (doc : OddDoc) (place rule : ℕ) : Type 0 where
  pub item : Entry
  pub stands : StandsIn doc.entries item
  pub begins : place ≡ place_of item
  pub fault : Fault item rule

-- the first of such offences by place and then by rule, in the file of the number
pub record IsFirstOffence (HasOne : ℕ → ℕ → Type 0) (file : ℕ) (offence : Offence) : Type 0 where
  pub in_file : offence.file ≡ file
  pub place : ℕ
  pub placed : offence.who ≡ who.At place
  pub is_first : IsFirstOf HasOne place offence.rule

-- the offences of references alone, and of all items
abbrev pub RefersWrongly : Library → OddDoc → ℕ → ℕ → Type 0
RefersWrongly library doc = OffendsAt (ReferenceFault library) doc

abbrev pub Offends : Library → OddDoc → ℕ → ℕ → Type 0
Offends library doc = OffendsAt (ItemFault library doc) doc
