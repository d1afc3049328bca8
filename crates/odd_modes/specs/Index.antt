-- What the references of a file are kept as, and what is told of items one after another.
use Rattle.std.specs.Prelude.{◌≡◌, ◌↔◌, ℕ, Bool, true, false, ◌||◌, not, List, filter, map, Option, Some, None, if◌then◌else◌, IsTrue}
use Rattle.std.specs.Borrow.{Bor}
use Rattle.std.specs.BTreeMap.{get_by}
use Rattle.std.specs.BTreeSet.{BTreeSet, contains, contains_by}
use Rattle.odd_text.specs.Key.{key_cmp}
use Rattle.odd_text.specs.Text.{text_cmp}
use Rattle.odd_text.specs.declared.key.Key.{Key}
use Rattle.odd_text.specs.declared.key.Kind.{Kind}
use Rattle.odd_text.specs.declared.key.Kind.TheVariants as kind
use Rattle.odd_text.specs.Same.{is_same}
use Rattle.odd_library.specs.First.{IsFirstOf}
use Rattle.odd_library.specs.Library.{module_of}
use Rattle.odd_library.specs.Odd.{place_of}
use Rattle.odd_library.specs.declared.fault.Fault.{Fault}
use Rattle.odd_library.specs.declared.library.Component.{Component}
use Rattle.odd_library.specs.declared.library.Library.{Library}
use Rattle.odd_library.specs.declared.odd.Entry.{Entry}
use Rattle.odd_library.specs.declared.spec.Spec.{Spec}
use Rattle.odd_modes.specs.Choosing.{is_referred}
use Rattle.odd_modes.specs.Offences.{IsOfModule}
use Rattle.odd_modes.specs.declared.named.Named.{Named}
use Rattle.odd_modes.specs.declared.named.Named.TheVariants as named
use Rattle.odd_modes.specs.declared.references.References.{References}
use Rattle.odd_modes.specs.declared.sweeping.Act.{Act}
use Rattle.odd_modes.specs.declared.sweeping.Act.TheVariants as act

-- the set has the text
abbrev pub has_text : BTreeSet (Bor (List ℕ)) → List ℕ → Bool
has_text texts text = contains_by (λ k. text_cmp text k.now) texts

-- the element is named
abbrev pub names : Named → List ℕ → Bool
names (named.Only idents) ident = has_text idents ident
names (named.AllBut idents) ident = not (has_text idents ident)

-- of a module that is referred to the elements that are named, and what is no element in either case
abbrev pub is_taken_of : Option Named → Kind → List ℕ → Bool
is_taken_of None of_kind ident = false
is_taken_of (Some n) kind.Element ident = names n ident
is_taken_of (Some n) kind.Class ident = true
is_taken_of (Some n) kind.Macro ident = true
is_taken_of (Some n) kind.Datatype ident = true

-- the component is referred to by its module
abbrev pub is_listed_by_module : References → Key → Component → Bool
is_listed_by_module refs key part = is_taken_of (get_by (λ k. text_cmp (module_of part) k.now) refs.modules) key.kind key.ident

-- the component that is held at the key is referred to
abbrev pub is_listed : References → Key → Component → Bool
is_listed refs key part = contains key_cmp refs.keys key || is_listed_by_module refs key part

-- the keys of the entries to which a reference is listed, in their order
abbrev pub keys_listed : References → List (Key × Component) → List Key
keys_listed references entries = map (λ e. e.0) (filter (λ e. is_listed references e.0 e.1) entries)

-- these are the references among the items
abbrev pub AreReferencesOf : List Entry → References → Type 0
AreReferencesOf entries refs = (key : Key) (part : Component) → is_listed refs key part ≡ is_referred entries key part

-- these are the modules of the components of the library
abbrev pub AreModulesOf : Library → BTreeSet (Bor (List ℕ)) → Type 0
AreModulesOf library modules = (name : List ℕ) → IsTrue (has_text modules name) ↔ ((key : Key) × IsOfModule library name key)

-- the component is of the module
abbrev pub is_of_module : Option Component → List ℕ → Bool
is_of_module None name = false
is_of_module (Some part) name = is_same (module_of part) name

-- what is held at the key is kept where a reference is listed to it
abbrev pub kept_at : References → Key → Option Component → Option (Act Spec)
kept_at references key None = None
kept_at references key (Some part) = if is_listed references key part then Some act.Keep else None

-- a declaration is put in place of another act
abbrev pub put_over : Option Spec → Option (Act Spec) → Option (Act Spec)
put_over None other = other
put_over (Some spec) other = Some (act.Put spec)

-- the fault of an item that breaks a rule
abbrev pub fault_of : Entry → Option ℕ → Option Fault
fault_of e None = None
fault_of e (Some rule) = Some (record { at = place_of e; rule = rule })

-- the first of the faults, where there is one
abbrev pub IsFirst : (ℕ → ℕ → Type 0) → Option Fault → Type 0
IsFirst HasOne None = (place rule : ℕ) → HasOne place rule → ⊥
IsFirst HasOne (Some fault) = IsFirstOf HasOne fault.at fault.rule
