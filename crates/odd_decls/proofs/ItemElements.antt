-- Which element of the table an item is, and the entry that it gives.
use Rattle.std.proofs.Common.{◌≡◌, List, [], ◌++◌, drop, refl, subst, None, Some, ℕ, Option, IsSome, is_some, false, sym, ap, ◌∙◌, codes}
use Rattle.std.proofs.lemmas.List.Elements.{All-cons, All-contains, All-nil}
use Rattle.std.proofs.lemmas.Option.{same_Some}
use Rattle.std.specs.Option.{option_map}
use Rattle.odd_content.specs.Giving.{pick_given}
use Rattle.odd_forms.proofs.Children.{found_among}
use Rattle.odd_forms.specs.Children.{IsChild}
use Rattle.odd_forms.specs.Faults.{element_among}
use Rattle.odd_forms.specs.Names.{HasName}
use Rattle.odd_forms.specs.Table.{form_at}
use Rattle.odd_forms.specs.declared.element.Element.{Element}
use Rattle.odd_forms.specs.declared.element.Element.TheVariants as element
use Rattle.odd_items.specs.Search.{Found}
use Rattle.odd_library.specs.declared.odd.Entry.{Entry}
use Rattle.odd_library.specs.declared.odd.Entry.TheVariants as entry
use Rattle.odd_library.specs.declared.spec.Spec.{Spec}
use Rattle.odd_text.specs.declared.key.Key.{Key}
use Rattle.odd_text.specs.declared.key.Kind.{Kind}
use Rattle.odd_text.proofs.InList.{contained}
use Rattle.odd_text.specs.Standing.{StandsIn}
use Rattle.odd_tree.specs.Elements.{given}
use Rattle.odd_tree.specs.declared.tree.Tree.{Tree, out-Tree}
use Rattle.odd_decls.proofs.ItemFaults.{item_placed, placed_group}
use Rattle.odd_decls.specs.Declares.{ChildrenGive, IsEntryOf, IsReadAs, kind_taken}
use Rattle.odd_decls.specs.ItemReading.{GivesEntry, IsSpecRead, reference_of, taken_of}
use Rattle.odd_decls.specs.Items.{IsItem, IsSpecOf, kind_declared}

abbrev items : List Element
items = (form_at element.SchemaSpec).many

-- what holds of each of the elements holds of the one that an item is; a group is none
pub each_item : (P : Element → Type 0) → P element.ModuleRef → P element.ElementRefItem → P element.ClassRefItem → P element.MacroRefItem → P element.DataRefItem → P element.ElementSpec
    → P element.ClassSpec → P element.MacroSpec → P element.DataSpec → P element.SpecGrpRef → (item : Tree) (e : Element) → IsItem e item → P e
each_item P mr er cr ar dr es cs ms ds rr item e is =
    let Q : Element → Type 0 = λ k. (k ≡ element.SpecGrp → ⊥) → P k in
    All-contains Q items e
    (All-cons Q element.ModuleRef (drop 1 items) (λ _. mr) (All-cons Q element.ElementRefItem (drop 2 items) (λ _. er) (All-cons Q element.ClassRefItem (drop 3 items) (λ _. cr)
    (All-cons Q element.MacroRefItem (drop 4 items) (λ _. ar) (All-cons Q element.DataRefItem (drop 5 items) (λ _. dr) (All-cons Q element.ElementSpec (drop 6 items) (λ _. es)
    (All-cons Q element.ClassSpec (drop 7 items) (λ _. cs) (All-cons Q element.MacroSpec (drop 8 items) (λ _. ms) (All-cons Q element.DataSpec (drop 9 items) (λ _. ds)
    (All-cons Q element.SpecGrp (drop 10 items) (λ not. absurd (not refl)) (All-cons Q element.SpecGrpRef (drop 11 items) (λ _. rr) (All-nil Q))))))))))))
    (contained items e (found_among items item e is.0).0) (λ group. is.1 (placed_group item (is.0 ∙ ap Some group)))

-- an item is one element
pub one_element : (item : Tree) (e k : Element) → IsChild element.SchemaSpec e item → IsChild element.SchemaSpec k item → e ≡ k
one_element item e k is also = same_Some _ _ (sym is ∙ also)

-- an item has no child of the table that may stand more than once
child_once : (item : Tree) (e : Element) → IsItem e item → (form_at e).many ≡ []
child_once item e is = each_item (λ k. (form_at k).many ≡ []) refl refl refl refl refl refl refl refl refl refl item e is

-- a child of the table that stands in an item is one of those that may stand once
pub stands_once : (item : Tree) (e kind : Element) (child : Tree) → IsItem e item → IsChild e kind child → StandsIn (form_at e).once kind × HasName (form_at kind).name child
stands_once item e kind child is of = found_among (form_at e).once child kind (subst (λ many. element_among (many ++ (form_at e).once) child ≡ Some kind) (child_once item e is) of)

-- what an item refers to is a component, where it is no `moduleRef`
pub reference_taken : (item : Tree) (e : Element) → (e ≡ element.ModuleRef → ⊥) → reference_of e item ≡ taken_of (kind_taken e) item
reference_taken item element.ModuleRef other = absurd (other refl)
reference_taken item e other = refl

-- an item refers to the entry that it is read as, or is a declaration of it
pub data IsMadeOf (ns : List ℕ) (item : Found) (k : Element) : Entry → Type 0 where
  reference : {e : Entry} → kind_declared k ≡ None → reference_of k item.element ≡ Some e → IsMadeOf ns item k e
  declaration : {spec : Spec} (p : IsReadAs ns item spec) → k ≡ p.is_spec.element → IsMadeOf ns item k (entry.Spec (out-Tree item.element).at spec)

-- what refers to a component declares none
takes_none : (k : Element) (of_kind : Kind) → kind_taken k ≡ Some of_kind → kind_declared k ≡ None
takes_none element.ElementSpec of_kind h = cc
takes_none element.ClassSpec of_kind h = cc
takes_none element.MacroSpec of_kind h = cc
takes_none element.DataSpec of_kind h = cc
takes_none k of_kind h = refl

pub made_of : (ns : List ℕ) (item : Found) (e : Entry) → IsEntryOf ns item e → (k : Element) × IsItem k item.element × IsMadeOf ns item k e
made_of ns item e (IsEntryOf.«module» is keyed) =
    (element.ModuleRef, is, IsMadeOf.reference refl (ap (option_map (λ word. entry.Module (out-Tree item.element).at word (pick_given item.element))) keyed))
made_of ns item e (IsEntryOf.take {of_kind = of_kind} {ident = ident} k is takes keyed) =
    let other : k ≡ element.ModuleRef → ⊥ = λ same. (let no : Some of_kind ≡ None = sym takes ∙ ap kind_taken same in cc) in (
      k,
      is,
      IsMadeOf.reference (takes_none k of_kind takes)
          (reference_taken item.element k other ∙ ap (λ o. taken_of o item.element) takes
          ∙ ap (option_map (λ word. entry.Take (out-Tree item.element).at (record { kind = of_kind; ident = word }))) keyed),
    )
made_of ns item e (IsEntryOf.spec p) = (p.is_spec.element, p.is_spec.is_item, IsMadeOf.declaration p refl)

-- an item is read as what it refers to
reference_read : (ns : List ℕ) (item : Found) (e : Element) (made : Entry) → IsItem e item.element → reference_of e item.element ≡ Some made → IsEntryOf ns item made
reference_read ns item element.ModuleRef made is h = by_key (given item.element (codes "key")) refl h
  where
    by_key : (o : Option (List ℕ)) → given item.element (codes "key") ≡ o → option_map (λ word. entry.Module (out-Tree item.element).at word (pick_given item.element)) o ≡ Some made
        → IsEntryOf ns item made
    by_key None none same = cc
    by_key (Some word) some same = subst (IsEntryOf ns item) (same_Some _ _ same) (IsEntryOf.«module» is some)
reference_read ns item e made is h = by_kind (kind_taken e) refl (given item.element (codes "key")) refl (sym (reference_taken item.element e (λ same. (let no = same in cc))) ∙ h)
  where
    by_kind : (k : Option Kind) → kind_taken e ≡ k → (o : Option (List ℕ)) → given item.element (codes "key") ≡ o → taken_of k item.element ≡ Some made → IsEntryOf ns item made
    by_kind None none o is_key same = cc
    by_kind (Some k) takes None none same = let no = sym (ap (option_map (λ word. entry.Take (out-Tree item.element).at (record { kind = k; ident = word }))) none) ∙ same in cc
    by_kind (Some k) takes (Some word) some same =
        let told = sym (ap (option_map (λ w. entry.Take (out-Tree item.element).at (record { kind = k; ident = w }))) some) ∙ same in
        subst (IsEntryOf ns item) (same_Some _ _ told) (IsEntryOf.take e is takes some)

-- what declares no component refers to its entry
made_reference : (ns : List ℕ) (item : Found) (k : Element) (e : Entry) → kind_declared k ≡ None → IsMadeOf ns item k e → reference_of k item.element ≡ Some e
made_reference ns item k e none (IsMadeOf.reference n p) = p
made_reference ns item k e none (IsMadeOf.declaration p is) = let no : None ≡ Some _ = sym none ∙ ap kind_declared is ∙ p.is_spec.of_kind in cc

-- what an item gives that declares no component
pub reference_given : (ns : List ℕ) (item : Found) (e : Element) (o : Option Entry) → IsChild element.SchemaSpec e item.element → kind_declared e ≡ None → reference_of e item.element ≡ o → GivesEntry ns item o
reference_given ns item e None is none h = λ made read.
    let m = made_of ns item made read in
    let same : m.0 ≡ e = one_element item.element m.0 e m.1.0 is in
    let no : None ≡ Some made = sym h ∙ made_reference ns item e made none (subst (λ k. IsMadeOf ns item k made) same m.2) in
    cc
reference_given ns item e (Some made) is none h =
    reference_read ns item e made (item_placed item.element e is (λ group. (let no : None ≡ Some made = sym (ap (λ k. reference_of k item.element) group) ∙ h in cc))) h

-- what declares a component has a key
made_keyed : (ns : List ℕ) (item : Found) (k : Element) (e : Entry) → IsSome (kind_declared k) → IsMadeOf ns item k e → (key : Key) × IsSpecOf key item.element
made_keyed ns item k e some (IsMadeOf.reference n p) = let no = sym (ap is_some n) ∙ some in cc
made_keyed ns item k e some (IsMadeOf.declaration {spec = spec} p is) = (spec.key, p.is_spec)

-- what a declaration gives
pub declaration_given : (ns : List ℕ) (item : Found) (e : Element) (o : Option Entry) → IsChild element.SchemaSpec e item.element → IsSome (kind_declared e) → IsSpecRead ns item.around e item.element o
    → GivesEntry ns item o
declaration_given ns item e None is declares (c, m, gives, h) = λ made read.
    let of = made_of ns item made read in
    let same : of.0 ≡ e = one_element item.element of.0 e of.1.0 is in
    let k = made_keyed ns item e made declares (subst (λ x. IsMadeOf ns item x made) same of.2) in
    h k.0 k.1
declaration_given ns item e (Some made) is declares (c, m, gives, w) =
    subst (IsEntryOf ns item) (sym w.is_made) (IsEntryOf.spec (record {
      is_spec = w.is_spec;
      of_mode = refl;
      of_module = refl;
      ns = refl;
      alt = refl;
      gives = refl;
      atts = w.declared;
      children = subst (λ x. ChildrenGive item.around x item.element c m) (one_element item.element e w.is_spec.element is w.is_spec.is_item.0) gives;
    }))

-- what is no declaration of a kind is one of none
pub none_declared : (o : Option Kind) → is_some o ≡ false → o ≡ None
none_declared None h = refl
none_declared (Some k) h = cc
