-- What holds of each declaration, of what a file declares, and of each library that files give.
use Rattle.std.specs.Prelude.{◌≡◌, ◌≢◌, ◌⊎◌, ℕ, List, [], Option, Some, None, IsSome, All, IsTrue}
use Rattle.std.specs.FinMap.{find, is_sorted}
use Rattle.std.specs.List.{filter_map}
use Rattle.std.specs.Option.{IfSome}
use Rattle.odd_text.specs.Key.{key_cmp}
use Rattle.odd_text.specs.Text.{text_cmp}
use Rattle.odd_text.specs.declared.key.Key.{Key}
use Rattle.odd_text.specs.declared.key.Kind.{Kind}
use Rattle.odd_text.specs.declared.key.Kind.TheVariants as kind
use Rattle.odd_tokens.specs.Characters.{IsLegal, IsNCName}
use Rattle.odd_tokens.specs.Tokens.{NoneTwice}
use Rattle.odd_text.specs.Standing.{StandsIn}
use Rattle.odd_text.specs.Sorted.{AreRising}
use Rattle.odd_attributes.specs.Formed.{AreFormedEdits}
use Rattle.odd_content.specs.Formed.{IsFormedContent, IsFormedPick, IsOfData}
use Rattle.odd_content.specs.declared.content.Content.{Content}
use Rattle.odd_library.specs.FormedMembers.{AreClasses, IsFormedMembership}
use Rattle.odd_library.specs.declared.library.ClassPart.{ClassPart}
use Rattle.odd_library.specs.declared.library.Component.{Component}
use Rattle.odd_library.specs.declared.library.Component.TheVariants as component
use Rattle.odd_library.specs.declared.library.ElementPart.{ElementPart}
use Rattle.odd_library.specs.declared.library.Library.{Library}
use Rattle.odd_library.specs.declared.library.OtherPart.{OtherPart}
use Rattle.odd_library.specs.declared.odd.Entry.{Entry}
use Rattle.odd_library.specs.declared.odd.Entry.TheVariants as entry
use Rattle.odd_library.specs.declared.odd.OddDoc.{OddDoc}
use Rattle.odd_library.specs.declared.spec.Mode.{Mode}
use Rattle.odd_library.specs.declared.spec.Mode.TheVariants as mode
use Rattle.odd_library.specs.declared.spec.Spec.{Spec}

-- a module has a name, or none is given
abbrev pub IsModule : List ℕ → Type 0
IsModule name = (name ≡ []) ⊎ IsNCName name

-- one start word or more, in rising order, each once
pub record AreStartWords (words : List (List ℕ)) : Type 0 where
  pub some : words ≢ []
  pub rising : AreRising text_cmp words
  pub named : All IsNCName words

-- the content of a component of the kind
abbrev pub IsFormedContentOf : Kind → Content → Type 0
IsFormedContentOf kind.Datatype content = IsFormedContent content × IsOfData content
IsFormedContentOf k content = IsFormedContent content

-- a declaration gives no more than a content
pub record HasContentAlone (spec : Spec) : Type 0 where
  pub no_ns : spec.ns ≡ None
  pub no_alt : spec.alt ≡ None
  pub no_type : spec.gives ≡ None
  pub no_classes : spec.classes ≡ None
  pub no_atts : spec.atts ≡ []

-- a declaration has no field that its kind has not
abbrev pub HasFieldsOf : Kind → Spec → Type 0
HasFieldsOf kind.Element spec = spec.gives ≡ None
HasFieldsOf kind.Class spec = (spec.ns ≡ None) × (spec.alt ≡ None) × (spec.content ≡ None)
HasFieldsOf kind.Macro spec = HasContentAlone spec
HasFieldsOf kind.Datatype spec = HasContentAlone spec

-- what one of the kind gives that stands alone: an element its namespace, a class its type, a datatype its content
abbrev pub StandsAlone : Kind → Spec → Type 0
StandsAlone kind.Element spec = IsSome spec.ns
StandsAlone kind.Class spec = IsSome spec.gives
StandsAlone kind.Macro spec = Unit {0}
StandsAlone kind.Datatype spec = IsSome spec.content

-- one that adds or replaces does
abbrev pub IsWholeIn : Mode → Spec → Type 0
IsWholeIn mode.Add spec = StandsAlone spec.key.kind spec
IsWholeIn mode.Replace spec = StandsAlone spec.key.kind spec
IsWholeIn m spec = Unit {0}

pub record IsFormedSpec (spec : Spec) : Type 0 where
  pub named : IsNCName spec.key.ident
  pub of_module : IsModule spec.«module»
  pub ns : IfSome spec.ns IsLegal
  pub alt : IfSome spec.alt IsNCName
  pub classes : IfSome spec.classes IsFormedMembership
  pub content : IfSome spec.content (IsFormedContentOf spec.key.kind)
  pub atts : AreFormedEdits spec.atts
  pub fields : HasFieldsOf spec.key.kind spec
  pub whole : IsWholeIn spec.mode spec

abbrev pub IsFormedEntry : Entry → Type 0
IsFormedEntry (entry.Module at key p) = IsNCName key × IsFormedPick p
IsFormedEntry (entry.Take at key) = IsNCName key.ident
IsFormedEntry (entry.Spec at spec) = IsFormedSpec spec

-- the key of an item that is a declaration
abbrev pub key_of : Entry → Option Key
key_of (entry.Module at name p) = None
key_of (entry.Take at taken) = None
key_of (entry.Spec at spec) = Some spec.key

-- what a file declares: at most one declaration for each key
pub record IsFormedDoc (doc : OddDoc) : Type 0 where
  pub ident : IsNCName doc.ident
  pub start : AreStartWords doc.start
  pub entries : (e : Entry) → StandsIn doc.entries e → IsFormedEntry e
  pub once : NoneTwice (filter_map key_of doc.entries)

pub record IsFormedElement (part : ElementPart) : Type 0 where
  pub of_module : IsModule part.«module»
  pub ns : IsLegal part.ns
  pub alt : IfSome part.alt IsNCName
  pub classes : AreClasses part.classes
  pub content : IsFormedContent part.content
  pub atts : AreFormedEdits part.atts

pub record IsFormedClass (part : ClassPart) : Type 0 where
  pub of_module : IsModule part.«module»
  pub classes : AreClasses part.classes
  pub atts : AreFormedEdits part.atts

pub record IsFormedOther (k : Kind) (part : OtherPart) : Type 0 where
  pub of_module : IsModule part.«module»
  pub content : IsFormedContentOf k part.content

-- a component of the kind
abbrev pub IsFormedPart : Kind → Component → Type 0
IsFormedPart kind.Element (component.Element part) = IsFormedElement part
IsFormedPart kind.Class (component.Class part) = IsFormedClass part
IsFormedPart kind.Macro (component.Macro part) = IsFormedOther kind.Macro part
IsFormedPart kind.Datatype (component.Datatype part) = IsFormedOther kind.Datatype part
IsFormedPart k part = ⊥

-- A library is a finite map from keys to components, each of the kind of its key.
pub record IsFormedLibrary (library : Library) : Type 0 where
  pub ident : IsNCName library.ident
  pub start : AreStartWords library.start
  pub rising : IsTrue (is_sorted key_cmp library.parts)
  pub formed : (key : Key) (part : Component) → find key_cmp key library.parts ≡ Some part → IsNCName key.ident × IsFormedPart key.kind part
