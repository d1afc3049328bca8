-- An item that breaks nothing is read as an entry where one is that says the same in another order, but for its place.
use Rattle.std.proofs.Common.{◌≡◌, ℕ, Bool, zero, true, ◌∙◌, List, [], ◌∷◌, Option, Some, None, refl, sym, ap, subst}
use Rattle.std.specs.Prelude.{codes, find, unwrap_or, ◌&&◌}
use Rattle.std.specs.Option.{option_map}
use Rattle.std.proofs.lemmas.Option.{same_Some}
use Rattle.odd_text.specs.declared.key.Kind.{Kind}
use Rattle.odd_text.specs.declared.key.Kind.TheVariants as kind
use Rattle.odd_text.specs.declared.name.Bind.{Bind}
use Rattle.odd_text.specs.Same.{is_same}
use Rattle.odd_text.specs.Standing.{StandsIn}
use Rattle.odd_tree.specs.Elements.{children_of, within}
use Rattle.odd_tree.specs.declared.tree.Tree.{Tree, out-Tree}
use Rattle.odd_forms.specs.Children.{GivesOne, IsChild}
use Rattle.odd_forms.specs.Deep.{DeepFault}
use Rattle.odd_forms.specs.Names.{first_named, is_one_of, tei_namespace}
use Rattle.odd_forms.specs.Table.{form_at}
use Rattle.odd_text.specs.Same.{is_among}
use Rattle.odd_forms.specs.declared.element.Element.{Element}
use Rattle.odd_forms.specs.declared.element.Element.TheVariants as element
use Rattle.odd_forms.proofs.Children.{child_named, named_one, one_named}
use Rattle.odd_content.specs.Giving.{pick_in}
use Rattle.odd_content.specs.Giving as giving
use Rattle.odd_content.specs.declared.content.Content.{Content}
use Rattle.odd_library.specs.Members.{IsMembershipOf, IsSetOf}
use Rattle.odd_library.specs.declared.membership.Membership.{Membership}
use Rattle.odd_attributes.specs.Giving.{AreEditsGiven, AreEditsOf, edits_of}
use Rattle.odd_attributes.specs.declared.att_edit.AttEdit.{AttEdit}
use Rattle.odd_library.specs.declared.odd.Entry.TheVariants as entry
use Rattle.odd_library.specs.declared.odd.Entry.{Entry}
use Rattle.odd_library.specs.declared.spec.Mode.{Mode}
use Rattle.odd_library.specs.declared.spec.Mode.TheVariants as mode
use Rattle.odd_library.specs.declared.spec.Spec.{Spec}
use Rattle.odd_items.specs.Search.{Found}
use Rattle.odd_decls.specs.Declares.{AreAttsDeclared, ChildrenGive, IsEntryOf, IsReadAs, alt_declared, content_of, mode_given, mode_named, namespace_with, type_given}
use Rattle.odd_decls.specs.Items.{kind_declared}
use Rattle.odd_decls.specs.Offences.{ItemFault}
use Rattle.order_laws.specs.AlikeDocs.{unplaced}
use Rattle.order_laws.specs.Reordered.{AreReordered, IsReordered}
use Rattle.order_laws.proofs.Alike.{same_attrs, same_given, same_within}
use Rattle.order_laws.proofs.DataThere.{data_content_there}
use Rattle.order_laws.proofs.FaultsThere.{is_item_there, is_spec_there, same_child_in}
use Rattle.order_laws.proofs.GivenThere.{IsFound, IsSoundAs, alt_in_order, content_there, first_found, fixed_there, marks_there}
use Rattle.order_laws.proofs.Matched.{lists_there, same_children, stands_back, stands_there}
use Rattle.order_laws.proofs.SoundThere.{classes_apart, edits_sound, found_stands, membership_sound}

-- What is told of an item by its tag

-- it does the same
same_mode : {t u : Tree} → IsReordered t u → mode_given t ≡ mode_given u
same_mode r = ap (λ word. mode_named (unwrap_or word (codes "add"))) (same_given (codes "mode") r)

-- under one mode it gives the same namespace
same_namespace : (k : Kind) (m : Mode) (unnamed : List ℕ) {t u : Tree} → IsReordered t u → namespace_with k m unnamed t ≡ namespace_with k m unnamed u
same_namespace kind.Element mode.Add unnamed r = ap (λ ns. Some (unwrap_or ns unnamed)) (same_given (codes "ns") r)
same_namespace kind.Element mode.Replace unnamed r = ap (λ ns. Some (unwrap_or ns unnamed)) (same_given (codes "ns") r)
same_namespace kind.Element mode.Change unnamed r = same_given (codes "ns") r
same_namespace kind.Element mode.Delete unnamed r = same_given (codes "ns") r
same_namespace k m unnamed r = refl

-- and the same type
same_type : (k : Kind) {t u : Tree} → IsReordered t u → type_given k t ≡ type_given k u
same_type kind.Class r = ap (option_map (λ word. is_same word (codes "atts"))) (same_given (codes "type") r)
same_type k r = refl

-- What the children of a declaration give

-- the elements that declare a component, each with the kind of it
data IsDeclared : Element → Kind → Type 0 where
  of_element : IsDeclared element.ElementSpec kind.Element
  of_class : IsDeclared element.ClassSpec kind.Class
  of_macro : IsDeclared element.MacroSpec kind.Macro
  of_datatype : IsDeclared element.DataSpec kind.Datatype

-- these are all
declared : (e : Element) (k : Kind) → kind_declared e ≡ Some k → IsDeclared e k
declared element.ElementSpec k is = subst (IsDeclared element.ElementSpec) (same_Some kind.Element k is) IsDeclared.of_element
declared element.ClassSpec k is = subst (IsDeclared element.ClassSpec) (same_Some kind.Class k is) IsDeclared.of_class
declared element.MacroSpec k is = subst (IsDeclared element.MacroSpec) (same_Some kind.Macro k is) IsDeclared.of_macro
declared element.DataSpec k is = subst (IsDeclared element.DataSpec) (same_Some kind.Datatype k is) IsDeclared.of_datatype
declared e k is = let none : None ≡ Some k = is in cc

-- the name in documents
alt_declared_there : {e : Element} {k : Kind} {t u : Tree} → IsDeclared e k → is_one_of ((form_at e).name ∷ []) t ≡ true → IsReordered t u → alt_declared k t ≡ alt_declared k u
alt_declared_there {t = t} {u = u} IsDeclared.of_element named r = alt_in_order t u (fixed_there (codes "elementSpec") refl named r)
alt_declared_there IsDeclared.of_class named r = refl
alt_declared_there IsDeclared.of_macro named r = refl
alt_declared_there IsDeclared.of_datatype named r = refl

-- the edits of the first `attList`, where it breaks nothing
att_list_there : (left : ℕ) (around : List Bind) (edits : List (List ℕ × AttEdit)) {o p : Option Tree} → IsFound (codes "attList" ∷ []) o p
    → ((list : Tree) → o ≡ Some list → IsSoundAs element.AttList left around list) → AreEditsGiven o edits → AreEditsGiven p edits
att_list_there left around edits IsFound.none sound are = are
att_list_there left around edits (IsFound.some {t = t} {u = u} is r) sound are =
    let l = lists_there r are.listed in
    let there : AreEditsOf u (edits_of l.0) = record { defs = l.0; listed = l.1; are = refl } in
    subst (AreEditsOf u) (sym (edits_sound left around r (sound t refl) are there)) there

-- an `attList` may stand in the declaration of an element
element_child : (t : Tree) → is_one_of (codes "attList" ∷ []) t ≡ true → IsChild element.ElementSpec element.AttList t
element_child t h =
    ap (λ n. find (λ e. is_same n.ns tei_namespace && is_among ((form_at e).name ∷ []) n.local) (element.AltIdent ∷ element.Classes ∷ element.Content ∷ element.AttList ∷ []))
    (one_named (codes "attList") t h)

-- and in that of a class
class_child : (t : Tree) → is_one_of (codes "attList" ∷ []) t ≡ true → IsChild element.ClassSpec element.AttList t
class_child t h =
    ap (λ n. find (λ e. is_same n.ns tei_namespace && is_among ((form_at e).name ∷ []) n.local) (element.Classes ∷ element.AttList ∷ [])) (one_named (codes "attList") t h)

-- so the first one breaks nothing in a declaration that does not
list_sound : (e : Element) {left : ℕ} {around : List Bind} {t : Tree} → ((x : Tree) → is_one_of (codes "attList" ∷ []) x ≡ true → IsChild e element.AttList x)
    → IsSoundAs e left around t → (left : ℕ) × ((list : Tree) → first_named (codes "attList") t ≡ Some list → IsSoundAs element.AttList left (within around t) list)
list_sound e {t = t} may sound = (
  _,
  λ list is rule f.
      let h = found_stands (codes "attList") (children_of t) list is in
      sound rule (DeepFault.inside element.AttList list h.0 (may list h.1) f),
)

-- the edits of attributes
atts_there : (edits : List (List ℕ × AttEdit)) {e : Element} {k : Kind} {left : ℕ} {around : List Bind} {t u : Tree} → IsDeclared e k
    → is_one_of ((form_at e).name ∷ []) t ≡ true → IsSoundAs e left around t → IsReordered t u → AreAttsDeclared k t edits → AreAttsDeclared k u edits
atts_there edits {around = around} {t = t} IsDeclared.of_element named sound r are =
    let h = list_sound element.ElementSpec element_child sound in
    att_list_there h.0 (within around t) edits (first_found (codes "attList" ∷ []) (fixed_there (codes "elementSpec") refl named r)) h.1 are
atts_there edits {around = around} {t = t} IsDeclared.of_class named sound r are =
    let h = list_sound element.ClassSpec class_child sound in
    att_list_there h.0 (within around t) edits (first_found (codes "attList" ∷ []) (fixed_there (codes "classSpec") refl named r)) h.1 are
atts_there edits IsDeclared.of_macro named sound r are = are
atts_there edits IsDeclared.of_datatype named sound r are = are

-- what one child gives, where one that says the same in another order gives it too
gives_there : {X : Type 0} (parent kind : Element) {IsOf IsThere : Tree → X → Type 0} {loose : Bool} {ts us : List Tree} {made : Option X} → AreReordered loose ts us
    → ((t u : Tree) (x : X) → StandsIn ts t → IsChild parent kind t → IsReordered t u → IsOf t x → IsThere u x) → GivesOne parent kind IsOf ts made
    → GivesOne parent kind IsThere us made
gives_there parent kind r same (GivesOne.none other) =
    GivesOne.none (λ u s is. let f = stands_back u r s in other f.0 f.1 (same_child_in (form_at parent) f.2 ∙ is))
gives_there parent kind r same (GivesOne.some {given = x} t s is of) =
    let f = stands_there t r s in
    GivesOne.some f.0 f.1 (sym (same_child_in (form_at parent) f.2) ∙ is) (same t f.0 x s is f.2 of)

-- the content, which in a datatype has a form of its own
content_sound : (e : Element) (left : ℕ) (binds : List Bind) {t u : Tree} → IsChild e (content_of e) t → IsReordered t u → IsSoundAs (content_of e) left binds t
    → giving.content_of binds t ≡ giving.content_of binds u
content_sound element.DataSpec left binds {t} is r sound =
    data_content_there left binds r (named_one (codes "content") t (child_named element.DataSpec element.DataContent t is)) sound
content_sound e left binds {t} is r sound = content_there left binds r (named_one (codes "content") t (child_named e element.Content t is)) sound

-- the memberships
classes_there : (left : ℕ) (binds : List Bind) {t u : Tree} (made : Membership) → IsReordered t u → IsSoundAs element.Classes left binds t → IsMembershipOf t made
    → IsMembershipOf u made
classes_there left binds made r sound m = record {
  value = m.value ∙ membership_sound left binds r sound;
  set = subst (λ marks. IsSetOf marks made) (marks_there r (classes_apart sound)) m.set;
}

-- so the children give the same
children_give : (e : Element) {left : ℕ} {around binds : List Bind} {t u : Tree} {c : Option Content} {m : Option Membership} → around ≡ binds → IsReordered t u
    → IsSoundAs e left around t → ChildrenGive around e t c m → ChildrenGive binds e u c m
children_give e {around = around} {t = t} {u = u} same r sound give =
    let inside : within around t ≡ within _ u = same_within around r ∙ ap (λ outer. within outer u) same in
    record {
      content = gives_there e (content_of e) (same_children r)
          (λ x y made s is q of.
          of ∙ content_sound e _ (within around t) is q (λ rule f. sound rule (DeepFault.inside (content_of e) x s is f)) ∙ ap (λ binds. giving.content_of binds y) inside)
          give.content;
      classes = gives_there e element.Classes (same_children r)
          (λ x y made s is q of. classes_there _ (within around t) made q (λ rule f. sound rule (DeepFault.inside element.Classes x s is f)) of) give.classes;
    }

-- What an item is read as

-- a declaration that breaks nothing is read as the same spec
pub read_there : (ns : List ℕ) (f g : Found) (spec : Spec) → f.around ≡ g.around → IsReordered f.element g.element
    → ((rule : ℕ) → ItemFault f.around f.element rule → ⊥) → IsReadAs ns f spec → IsReadAs ns g spec
read_there ns f g spec around r sound read =
    let e = read.is_spec.element in
    let is = read.is_spec.is_item in
    let known = declared e spec.key.kind read.is_spec.of_kind in
    let named : is_one_of ((form_at e).name ∷ []) f.element ≡ true = named_one (form_at e).name f.element (child_named element.SchemaSpec e f.element is.0) in
    let fine : IsSoundAs e 60 f.around f.element = λ rule fault. sound rule (ItemFault.deep e is fault) in
    record {
      is_spec = is_spec_there r read.is_spec;
      of_mode = read.of_mode ∙ same_mode r;
      of_module = read.of_module ∙ ap (λ word. unwrap_or word []) (same_given (codes "module") r);
      ns = read.ns ∙ ap (λ m. namespace_with spec.key.kind m ns f.element) (same_mode r) ∙ same_namespace spec.key.kind (mode_given g.element) ns r;
      alt = read.alt ∙ alt_declared_there known named r;
      gives = read.gives ∙ same_type spec.key.kind r;
      atts = atts_there spec.atts known named fine r read.atts;
      children = children_give e around r fine read.children;
    }

-- and an item that breaks nothing as the same entry, but for its place
pub entry_there : (ns : List ℕ) (f g : Found) (e : Entry) → f.around ≡ g.around → IsReordered f.element g.element
    → ((rule : ℕ) → ItemFault f.around f.element rule → ⊥) → IsEntryOf ns f e → (other : Entry) × IsEntryOf ns g other × (unplaced e ≡ unplaced other)
entry_there ns f g e around r sound (IsEntryOf.«module» {key = key} is has) = (
  entry.Module (out-Tree g.element).at key (pick_in (out-Tree g.element).attrs),
  IsEntryOf.«module» (is_item_there element.ModuleRef r is) (sym (same_given (codes "key") r) ∙ has),
  ap (λ attrs. entry.Module zero key (pick_in attrs)) (same_attrs r),
)
entry_there ns f g e around r sound (IsEntryOf.take {of_kind = k} {ident = ident} of is takes has) = (
  entry.Take (out-Tree g.element).at (record { kind = k; ident = ident }),
  IsEntryOf.take of (is_item_there of r is) takes (sym (same_given (codes "key") r) ∙ has),
  refl,
)
entry_there ns f g e around r sound (IsEntryOf.spec {spec = made} read) = (entry.Spec (out-Tree g.element).at made, IsEntryOf.spec (read_there ns f g made around r sound read), refl)
