-- What the tree of an ODD file declares, where it has no offence of form.
use Rattle.std.specs.Prelude.{◌≡◌, ◌<◌, ℕ, Bool, false, List, [], ◌∷◌, ◌++◌, Option, Some, None, if◌then◌else◌, codes, unwrap_or}
use Rattle.std.specs.Option.{option_map}
use Rattle.odd_text.specs.Text.{text_cmp}
use Rattle.odd_text.specs.declared.key.Kind.{Kind}
use Rattle.odd_text.specs.declared.key.Kind.TheVariants as kind
use Rattle.odd_text.specs.declared.name.Bind.{Bind}
use Rattle.odd_text.specs.Same.{is_same}
use Rattle.odd_text.specs.Standing.{StandsIn}
use Rattle.odd_tree.specs.Elements.{children_of, given, within}
use Rattle.odd_tree.specs.declared.tree.Tree.{Tree, out-Tree}
use Rattle.odd_forms.specs.Children.{GivesOne}
use Rattle.odd_attributes.specs.Giving.{AreEditsGiven, alt_given}
use Rattle.odd_attributes.specs.declared.att_edit.AttEdit.{AttEdit}
use Rattle.odd_forms.specs.Names.{first_named, tei_namespace}
use Rattle.odd_text.specs.Sorted.{IsSet}
use Rattle.odd_forms.specs.Words.{words_of}
use Rattle.odd_content.specs.Giving.{IsContentOf, pick_given}
use Rattle.odd_content.specs.declared.content.Content.{Content}
use Rattle.odd_forms.specs.declared.element.Element.{Element}
use Rattle.odd_forms.specs.declared.element.Element.TheVariants as element
use Rattle.odd_library.specs.Members.{IsMembershipOf}
use Rattle.odd_library.specs.declared.membership.Membership.{Membership}
use Rattle.odd_library.specs.Odd.{place_of}
use Rattle.odd_decls.specs.Aside.{IsReadOf}
use Rattle.odd_decls.specs.Items.{IsItem, IsSpecOf}
use Rattle.odd_decls.specs.Offences.{OffendsWhole}
use Rattle.odd_items.specs.Groups.{IsItemIn, schema_names}
use Rattle.odd_items.specs.Search.{Finds, Found}
use Rattle.odd_library.specs.declared.odd.Entry.TheVariants as entry
use Rattle.odd_library.specs.declared.odd.Entry.{Entry}
use Rattle.odd_library.specs.declared.odd.OddDoc.{OddDoc}
use Rattle.odd_library.specs.declared.spec.Mode.{Mode}
use Rattle.odd_library.specs.declared.spec.Mode.TheVariants as mode
use Rattle.odd_library.specs.declared.spec.Spec.{Spec}

-- what a declaration does: it adds, where its `mode` says nothing else
abbrev pub mode_named : List ℕ → Mode
mode_named word =
    if is_same word (codes "delete") then mode.Delete else if is_same word (codes "change") then mode.Change else if is_same word (codes "replace") then mode.Replace else mode.Add

abbrev pub mode_given : Tree → Mode
mode_given item = mode_named (unwrap_or (given item (codes "mode")) (codes "add"))

-- the namespace of the elements of a `schemaSpec` that give none: its own, else TEI's
abbrev pub namespace_around : Tree → List ℕ
namespace_around schema = unwrap_or (given schema (codes "ns")) tei_namespace

-- the namespace that the declaration of an element gives: its own, and one that adds or replaces else gives the one around it
abbrev pub namespace_by : Mode → List ℕ → Tree → Option (List ℕ)
namespace_by mode.Add around item = Some (unwrap_or (given item (codes "ns")) around)
namespace_by mode.Replace around item = Some (unwrap_or (given item (codes "ns")) around)
namespace_by mode.Change around item = given item (codes "ns")
namespace_by mode.Delete around item = given item (codes "ns")

-- other components have none
abbrev pub namespace_with : Kind → Mode → List ℕ → Tree → Option (List ℕ)
namespace_with kind.Element m around item = namespace_by m around item
namespace_with k m around item = None

-- the namespace around the items of a file: that of its `schemaSpec`, or TEI's
abbrev pub namespace_of : List Found → List ℕ
namespace_of [] = tei_namespace
namespace_of (first ∷ others) = namespace_around first.element

-- whether a class is of type `atts`, where its declaration gives a type
abbrev pub type_given : Kind → Tree → Option Bool
type_given kind.Class item = option_map (λ word. is_same word (codes "atts")) (given item (codes "type"))
type_given k item = None

-- the `content` of a declaration, which in that of a datatype has a form of its own
abbrev pub content_of : Element → Element
content_of element.DataSpec = element.DataContent
content_of e = element.Content

-- what the children of a declaration give: its content and the classes that it is a member of
pub record ChildrenGive (around : List Bind) (e : Element) (item : Tree) (c : Option Content) (m : Option Membership) : Type 0 where
  pub content : GivesOne e (content_of e) (IsContentOf (within around item)) (children_of item) c
  pub classes : GivesOne e element.Classes IsMembershipOf (children_of item) m

-- the name of an element in documents that its declaration gives by an `altIdent`; other components have none
abbrev pub alt_declared : Kind → Tree → Option (List ℕ)
alt_declared kind.Element item = alt_given item
alt_declared k item = None

-- the edits of attributes that the declaration of an element or a class gives; other components have none
abbrev pub AreAttsDeclared : Kind → Tree → List (List ℕ × AttEdit) → Type 0
AreAttsDeclared kind.Element item edits = AreEditsGiven (first_named (codes "attList") item) edits
AreAttsDeclared kind.Class item edits = AreEditsGiven (first_named (codes "attList") item) edits
AreAttsDeclared k item edits = edits ≡ []

-- a declaration is read as the spec, where elements that give no namespace have this one
pub record IsReadAs (unnamed : List ℕ) (item : Found) (spec : Spec) : Type 0 where
  pub is_spec : IsSpecOf spec.key item.element
  pub of_mode : spec.mode ≡ mode_given item.element
  pub of_module : spec.«module» ≡ unwrap_or (given item.element (codes "module")) []
  pub ns : spec.ns ≡ namespace_with spec.key.kind (mode_given item.element) unnamed item.element
  pub alt : spec.alt ≡ alt_declared spec.key.kind item.element
  pub gives : spec.gives ≡ type_given spec.key.kind item.element
  pub atts : AreAttsDeclared spec.key.kind item.element spec.atts
  pub children : ChildrenGive item.around is_spec.element item.element spec.content spec.classes

-- the kind of the component that an item refers to
abbrev pub kind_taken : Element → Option Kind
kind_taken element.ElementRefItem = Some kind.Element
kind_taken element.ClassRefItem = Some kind.Class
kind_taken element.MacroRefItem = Some kind.Macro
kind_taken element.DataRefItem = Some kind.Datatype
kind_taken e = None

-- an item is read as the entry, at the byte where it begins
pub data IsEntryOf (ns : List ℕ) (item : Found) : Entry → Type 0 where
  «module» : {key : List ℕ} → IsItem element.ModuleRef item.element → given item.element (codes "key") ≡ Some key
      → IsEntryOf ns item (entry.Module (out-Tree item.element).at key (pick_given item.element))
  take : {of_kind : Kind} {ident : List ℕ} (e : Element) → IsItem e item.element → kind_taken e ≡ Some of_kind → given item.element (codes "key") ≡ Some ident
      → IsEntryOf ns item (entry.Take (out-Tree item.element).at (record { kind = of_kind; ident = ident }))
  spec : {spec : Spec} → IsReadAs ns item spec → IsEntryOf ns item (entry.Spec (out-Tree item.element).at spec)

-- The entries of items: one stands exactly where an item is read as it; groups and references to them are read as none.
pub record AreEntriesOf (t : Tree) (schemas : List Found) (entries : List Entry) : Type 0 where
  pub none_else : (e : Entry) → StandsIn entries e → (item : Found) × IsItemIn t schemas item × IsEntryOf (namespace_of schemas) item e
  pub each : (item : Found) (made : Entry) → IsItemIn t schemas item → IsEntryOf (namespace_of schemas) item made → StandsIn entries made

-- by place
abbrev pub PlacesRise : List Entry → Type 0
PlacesRise entries = (before after : List Entry) (e next : Entry) → entries ≡ before ++ e ∷ (next ∷ after) → place_of e < place_of next

-- the words of `start`, or `TEI` where it is absent
abbrev pub start_of : Tree → List (List ℕ)
start_of schema = words_of (unwrap_or (given schema (codes "start")) (codes "TEI"))

-- the ident and the start words of a file: of its `schemaSpec`, or those of a file without one
abbrev pub ident_in : List Found → Option (List ℕ)
ident_in [] = Some (codes "bare")
ident_in (first ∷ others) = given first.element (codes "ident")

abbrev pub start_in : List Found → List (List ℕ)
start_in [] = codes "TEI" ∷ []
start_in (first ∷ others) = start_of first.element

-- what a file without an offence declares as it stands
pub record DeclaresWhole (t : Tree) (doc : OddDoc) : Type 0 where
  pub unoffended : (place rule : ℕ) → OffendsWhole t place rule → ⊥
  pub schemas : List Found
  pub found : Finds schema_names false [] t schemas
  pub ident : ident_in schemas ≡ Some doc.ident
  pub start : IsSet text_cmp (StandsIn (start_in schemas)) doc.start
  pub entries : AreEntriesOf t schemas doc.entries
  pub rising : PlacesRise doc.entries

-- what a file declares that is read with `aside` or without
pub record Declares (t : Tree) (aside : Bool) (doc : OddDoc) : Type 0 where
  pub read : Tree
  pub is_read : IsReadOf t aside read doc.asides
  pub declares : DeclaresWhole read doc
