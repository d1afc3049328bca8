-- A tree declares one doc, item by item.
use Rattle.std.proofs.Common.{◌≡◌, ◌≤◌, ℕ, None, [], ◌∷◌, Option, Some, refl, sym, ap, subst, ◌∙◌, List, codes, false}
use Rattle.std.proofs.lemmas.Cmp.{nat_cmp_total, nat_list_cmp_total, on_total}
use Rattle.std.proofs.lemmas.Option.{same_Some}
use Rattle.std.specs.Cmp.{nat_cmp_is}
use Rattle.std.specs.Ordering.{nat_cmp}
use Rattle.std.specs.Prelude.{count_by}
use Rattle.std.specs.declared.cmp.Ordering.{Ordering}
use Rattle.std.specs.declared.cmp.Ordering.TheVariants.{Less}
use Rattle.odd_attributes.specs.Giving.{AreEditsGiven, edits_of}
use Rattle.odd_attributes.specs.declared.att_edit.AttEdit.{AttEdit}
use Rattle.odd_content.specs.Giving.{IsContentOf}
use Rattle.odd_forms.proofs.Children.{named_one}
use Rattle.odd_forms.proofs.Listed.{lists_one}
use Rattle.odd_text.proofs.SetOf.{one_set}
use Rattle.odd_forms.specs.Children.{GivesOne}
use Rattle.odd_forms.specs.Deep.{DeepFault}
use Rattle.odd_forms.specs.Faults.{FormFault}
use Rattle.odd_forms.specs.Names.{first_named, is_one_of}
use Rattle.odd_text.specs.Sorted.{IsSet}
use Rattle.odd_forms.specs.Table.{form_at}
use Rattle.odd_forms.specs.declared.element.Element.{Element}
use Rattle.odd_forms.specs.declared.element.Element.TheVariants as element
use Rattle.odd_items.proofs.Standing.{one_search}
use Rattle.odd_items.specs.Groups.{IsItemIn, schema_names}
use Rattle.odd_items.specs.Search.{Finds, Found}
use Rattle.odd_library.specs.Odd.{place_of}
use Rattle.odd_library.specs.declared.odd.Entry.{Entry}
use Rattle.odd_library.specs.declared.odd.Entry.TheVariants as entry
use Rattle.odd_library.specs.declared.odd.OddDoc.{OddDoc}
use Rattle.odd_library.specs.declared.spec.Spec.{Spec}
use Rattle.odd_library.specs.Members.{IsMembershipOf}
use Rattle.odd_text.specs.Text.{text_cmp}
use Rattle.odd_text.specs.declared.key.Kind.{Kind}
use Rattle.odd_text.specs.declared.key.Kind.TheVariants as kind
use Rattle.odd_text.specs.Standing.{StandsIn}
use Rattle.odd_tree.specs.Elements.{children_of, within}
use Rattle.odd_tree.specs.declared.tree.Tree.{Tree, out-Tree}
use Rattle.odd_decls.proofs.ItemElements.{IsMadeOf, made_of, one_element, stands_once}
use Rattle.odd_decls.proofs.Rising.{one_key, one_passes}
use Rattle.odd_decls.specs.Declares.{AreAttsDeclared, AreEntriesOf, ChildrenGive, DeclaresWhole, IsEntryOf, IsReadAs, PlacesRise, alt_declared, content_of, ident_in, mode_given, namespace_of, namespace_with, start_in, type_given}
use Rattle.odd_decls.specs.Items.{IsItem, at_of, kind_declared}
use Rattle.odd_decls.specs.Offences.{ItemFault, ItemsOffend, Offends, OffendsWhole}

-- an item has two children of the kind
abbrev HasTwo : Element → Tree → Type 0
HasTwo kind item = 2 ≤ count_by (is_one_of ((form_at kind).name ∷ [])) (children_of item)

-- an item has no two children of a kind that may stand once
abbrev pub HasNoTwo : Element → Tree → Type 0
HasNoTwo e item = (kind : Element) → StandsIn (form_at e).once kind → HasTwo kind item → ⊥

-- so what one of them gives is one thing
one_given : {X : Type 0} (e kind : Element) (IsOf : Tree → X → Type 0) (item : Tree) (o p : Option X) → IsItem e item → HasNoTwo e item
    → ((child : Tree) (x y : X) → IsOf child x → IsOf child y → x ≡ y) → GivesOne e kind IsOf (children_of item) o → GivesOne e kind IsOf (children_of item) p → o ≡ p
one_given e kind IsOf item o p is few one (GivesOne.none h) (GivesOne.none k) = refl
one_given e kind IsOf item o p is few one (GivesOne.none h) (GivesOne.some child s of told) = absurd (h child s of)
one_given e kind IsOf item o p is few one (GivesOne.some child s of told) (GivesOne.none h) = absurd (h child s of)
one_given e kind IsOf item o p is few one (GivesOne.some {given = x} child s of told) (GivesOne.some {given = y} other t also said) =
    let here = stands_once item e kind child is of in
    let there = stands_once item e kind other is also in
    let same : child ≡ other =
    one_passes (is_one_of ((form_at kind).name ∷ [])) (children_of item) child other (few kind here.0) s (named_one (form_at kind).name child here.1) t (named_one (form_at kind).name other there.1) in
    ap Some (one other x y (subst (λ t. IsOf t x) same told) said)

-- a list says the edits of one list of attributes
one_edits : (o : Option Tree) (a b : List (List ℕ × AttEdit)) → AreEditsGiven o a → AreEditsGiven o b → a ≡ b
one_edits None a b p q = p ∙ sym q
one_edits (Some list) a b p q = p.are ∙ ap edits_of (lists_one p.listed q.listed) ∙ sym q.are

-- and so does a declaration
one_atts : (k : Kind) (item : Tree) (a b : List (List ℕ × AttEdit)) → AreAttsDeclared k item a → AreAttsDeclared k item b → a ≡ b
one_atts kind.Element item a b p q = one_edits (first_named (codes "attList") item) a b p q
one_atts kind.Class item a b p q = one_edits (first_named (codes "attList") item) a b p q
one_atts k item a b p q = p ∙ sym q

-- so an item is read as one spec
one_spec : (ns : List ℕ) (item : Found) (a b : Spec) (p : IsReadAs ns item a) → HasNoTwo p.is_spec.element item.element → IsReadAs ns item b → a ≡ b
one_spec ns item a b p few q =
    let t = item.element in
    let e = p.is_spec.element in
    let is = p.is_spec.is_item in
    let same : q.is_spec.element ≡ e = one_element t q.is_spec.element e q.is_spec.is_item.0 is.0 in
    let given : ChildrenGive item.around e t b.content b.classes = subst (λ k. ChildrenGive _ k t b.content b.classes) same q.children in
    let keys : a.key ≡ b.key = one_key t a.key b.key p.is_spec q.is_spec in
    let modes : a.mode ≡ b.mode = p.of_mode ∙ sym q.of_mode in
    let modules : a.«module» ≡ b.«module» = p.of_module ∙ sym q.of_module in
    let namespaces : a.ns ≡ b.ns = p.ns ∙ ap (λ k. namespace_with k.kind (mode_given t) ns t) keys ∙ sym q.ns in
    let names : a.alt ≡ b.alt = p.alt ∙ ap (λ k. alt_declared k.kind t) keys ∙ sym q.alt in
    let attributes : a.atts ≡ b.atts = one_atts a.key.kind t a.atts b.atts p.atts (subst (λ k. AreAttsDeclared k.kind t b.atts) (sym keys) q.atts) in
    let types : a.gives ≡ b.gives = p.gives ∙ ap (λ k. type_given k.kind t) keys ∙ sym q.gives in
    let memberships : a.classes ≡ b.classes = one_given e element.Classes IsMembershipOf t _ _ is few (λ child x y h k. h.value ∙ sym k.value) p.children.classes given.classes in
    let contents : a.content ≡ b.content =
    one_given e (content_of e) (IsContentOf (within item.around t)) t _ _ is few (λ child x y h k. h ∙ sym k) p.children.content given.content in
    λ n. record { key = keys n; mode = modes n; «module» = modules n; ns = namespaces n; alt = names n; gives = types n; classes = memberships n; content = contents n; atts = attributes n }

-- so an item is read as one entry
one_made : (ns : List ℕ) (item : Found) (k : Element) (e f : Entry) → HasNoTwo k item.element → IsMadeOf ns item k e → IsMadeOf ns item k f → e ≡ f
one_made ns item k e f few (IsMadeOf.reference n p) (IsMadeOf.reference m q) = same_Some _ _ (sym p ∙ q)
one_made ns item k e f few (IsMadeOf.reference n p) (IsMadeOf.declaration q is) = let no : None ≡ Some _ = sym n ∙ ap kind_declared is ∙ q.is_spec.of_kind in cc
one_made ns item k e f few (IsMadeOf.declaration p is) (IsMadeOf.reference n q) = let no : None ≡ Some _ = sym n ∙ ap kind_declared is ∙ p.is_spec.of_kind in cc
one_made ns item k e f few (IsMadeOf.declaration {spec = a} p is) (IsMadeOf.declaration {spec = b} q also) =
    ap (λ s. entry.Spec (out-Tree item.element).at s) (one_spec ns item a b p (subst (λ x. HasNoTwo x item.element) is few) q)

one_entry : (ns : List ℕ) (item : Found) (e f : Entry) → ((k : Element) → IsItem k item.element → HasNoTwo k item.element) → IsEntryOf ns item e → IsEntryOf ns item f → e ≡ f
one_entry ns item e f few p q =
    let m = made_of ns item e p in
    let n = made_of ns item f q in
    let same : n.0 ≡ m.0 = one_element item.element n.0 m.0 n.1.0 m.1.0 in
    one_made ns item m.0 e f (few m.0 m.1) m.2 (subst (λ k. IsMadeOf ns item k f) same n.2)

-- a file has no offence
abbrev pub HasNone : Tree → Type 0
HasNone t = (place rule : ℕ) → OffendsWhole t place rule → ⊥

-- so no item has two, since that breaks rule 4
none_has_two : (t : Tree) (schemas : List Found) (item : Found) → HasNone t → Finds schema_names false [] t schemas → IsItemIn t schemas item → (k : Element) → IsItem k item.element
    → HasNoTwo k item.element
none_has_two t schemas item none finds is k of kind once two =
    none (at_of item) 4 (record {
      schemas = schemas;
      found = finds;
      offends = Offends.item (ItemsOffend.alone item is (ItemFault.deep k of (DeepFault.itself (FormFault.twice kind once two))) refl);
    })

-- and each item is read as one entry
pub one_read : (t : Tree) (schemas : List Found) (ns : List ℕ) (item : Found) (e f : Entry) → HasNone t → Finds schema_names false [] t schemas → IsItemIn t schemas item → IsEntryOf ns item e
    → IsEntryOf ns item f → e ≡ f
one_read t schemas ns item e f none finds is = one_entry ns item e f (none_has_two t schemas item none finds is)

-- entries by their places
abbrev by_place : Entry → Entry → Ordering
by_place e f = nat_cmp (place_of e) (place_of f)

-- an item is read as the entry
abbrev IsEntryIn : Tree → List Found → Entry → Type 0
IsEntryIn t schemas e = (item : Found) × IsItemIn t schemas item × IsEntryOf (namespace_of schemas) item e

-- the entries are the set of those
entries_set : (t : Tree) (schemas : List Found) (entries : List Entry) → AreEntriesOf t schemas entries → PlacesRise entries → IsSet by_place (IsEntryIn t schemas) entries
entries_set t schemas entries are rise = record {
  rising = λ before after e next is. sym (nat_cmp_is (place_of e) (place_of next) Less (rise before after e next is));
  none_else = are.none_else;
  each = λ e h. are.each h.0 e h.1 h.2;
}

-- a tree declares one doc, but for how many constraints were taken out
pub one_doc_whole : (t : Tree) (d e : OddDoc) → DeclaresWhole t d → DeclaresWhole t e → d.asides ≡ e.asides → d ≡ e
one_doc_whole t d e p other asides =
    let schemas : other.schemas ≡ p.schemas = one_search schema_names false [] t _ _ other.found p.found in
    let of_entries : AreEntriesOf t p.schemas e.entries = subst (λ fs. AreEntriesOf t fs e.entries) schemas other.entries in
    let idents : d.ident ≡ e.ident = same_Some _ _ (sym p.ident ∙ ap ident_in (sym schemas) ∙ other.ident) in
    let starts : d.start ≡ e.start = one_set text_cmp nat_list_cmp_total _ _ _ p.start (subst (λ fs. IsSet text_cmp (StandsIn (start_in fs)) e.start) schemas other.start) in
    let entries : d.entries ≡ e.entries =
    one_set by_place (on_total place_of nat_cmp_total) (IsEntryIn t p.schemas) _ _ (entries_set t p.schemas _ p.entries p.rising) (entries_set t p.schemas _ of_entries other.rising) in
    λ n. record { ident = idents n; start = starts n; entries = entries n; asides = asides n }
