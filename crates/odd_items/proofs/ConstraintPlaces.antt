-- The places of the constraints that may not stand where they do: those put into a set so far, where the rest of the elements is still to come.
use Rattle.std.proofs.Common.{◌≡◌, ◌↔◌, ℕ, ◌⊎◌, inl, inr, ⊎_elim, Bool, true, false, cond, List, [], ◌∷◌, Option, Some, None, IsTrue, refl, sym, ap, subst, ◌∙◌, arith, map, Bor, ◌++◌, ◌+◌, ◌<◌, drop, get_or, length}
use Rattle.std.proofs.lemmas.Cmp.{eq_by_cmp_equiv, nat_cmp_total, ranked}
use Rattle.std.proofs.lemmas.Map.Views.{list_any-from_Contains}
use Rattle.std.proofs.lemmas.Option.{same_Some}
use Rattle.std.specs.BTreeSet.{BTreeSet, contains}
use Rattle.std.specs.Cmp.Lexicographic.{same_text}
use Rattle.std.specs.List.{Contains, list_any}
use Rattle.std.specs.Ordering.{eq_by_cmp, nat_cmp}
use Rattle.odd_text.specs.Same.{is_same}
use Rattle.odd_tree.proofs.InTree.{text_shown}
use Rattle.odd_text.proofs.InList.{begins, contained as contained_in, first_or_later, nothing_stands, standing, stands_first, stands_later}
use Rattle.odd_tree.proofs.PrintedTrees.{same_from}
use Rattle.odd_text.specs.Standing.{StandsIn}
use Rattle.odd_tree.specs.Elements.{children_of, elements_of}
use Rattle.odd_tree.specs.declared.tree.Node.{Node, Text}
use Rattle.odd_tree.specs.declared.tree.Tree.{Tree, out-Tree}
use Rattle.odd_text.proofs.Least.{any_map, any_stands}
use Rattle.odd_forms.specs.Children.{IsChild}
use Rattle.odd_forms.specs.Faults.{child_in}
use Rattle.odd_forms.specs.Table.{form_at}
use Rattle.odd_forms.specs.declared.element.Element.{Element}
use Rattle.odd_items.proofs.SoFar.{contained}
use Rattle.odd_items.specs.Constraints.{AddsPlaces, IsConstraint, IsConstraintIn, IsReadIn, LeavesOutConstraints}
use Rattle.odd_items.specs.Constraints as inner

-- elements of which there are none add no place
pub adds_none : (Is : Tree → Type 0) (places : List ℕ) → ((c : Tree) → Is c → ⊥) → AddsPlaces Is places places
adds_none Is places none place = (λ h. inl h, λ h. ⊎_elim (λ k. k) (λ k. absurd (none k.0 k.1)) h)

-- those that are such by other words add the same places
pub adds_same : (Is Other : Tree → Type 0) (old new : List ℕ) → ((c : Tree) → Is c ↔ Other c) → AddsPlaces Is old new → AddsPlaces Other old new
adds_same Is Other old new same adds place = (
  λ h. ⊎_elim (λ k. inl k) (λ k. inr (k.0, (same k.0).0 k.1, k.2)) ((adds place).0 h),
  λ h. (adds place).1 (⊎_elim (λ k. inl k) (λ k. inr (k.0, (same k.0).1 k.1, k.2)) h),
)

-- those of two kinds add the places of the one, and then those of the other
pub adds_both : (One Other : Tree → Type 0) (old between new : List ℕ) → AddsPlaces One old between → AddsPlaces Other between new → AddsPlaces (λ c. One c ⊎ Other c) old new
adds_both One Other old between new one other place = (
  λ h. ⊎_elim (λ k. ⊎_elim (λ l. inl l) (λ l. inr (l.0, inl l.1, l.2)) ((one place).0 k)) (λ k. inr (k.0, inr k.1, k.2)) ((other place).0 h),
  λ h. (other place).1 (⊎_elim (λ k. inl ((one place).1 (inl k))) (λ k. ⊎_elim (λ l. inl ((one place).1 (inr (k.0, l, k.2)))) (λ l. inr (k.0, l, k.2)) k.1) h),
)

-- numbers that tie are one
tied_one : (m n : ℕ) → eq_by_cmp nat_cmp m n ≡ true → m ≡ n
tied_one m n tied = grind (arith, ranked m n (nat_cmp m n) refl)

-- and one number ties with itself
one_tied : (m n : ℕ) → m ≡ n → eq_by_cmp nat_cmp m n ≡ true
one_tied m n same = subst (λ k. eq_by_cmp nat_cmp m k ≡ true) same ((eq_by_cmp_equiv nat_cmp_total).refl m)

-- the place of an element is put into a set
pub adds_place : (t : Tree) (old new : BTreeSet ℕ) → ((place : ℕ) → contains nat_cmp new place ≡ cond (eq_by_cmp nat_cmp (out-Tree t).at place) true (contains nat_cmp old place))
    → AddsPlaces (λ c. c ≡ t) old.keys new.keys
adds_place t old new put place = (λ h. into (eq_by_cmp nat_cmp at place) refl (sym (put place) ∙ holds new place h), λ h. contained new place (put place ∙ ⊎_elim earlier is h))
  where
    at : ℕ
    at = (out-Tree t).at

    -- a place in a set is found there
    holds : (places : BTreeSet ℕ) (p : ℕ) → Contains places.keys p → contains nat_cmp places p ≡ true
    holds places p is = list_any-from_Contains (eq_by_cmp_equiv nat_cmp_total) p places.keys is

    into : (tied : Bool) → tied ≡ eq_by_cmp nat_cmp at place → cond tied true (contains nat_cmp old place) ≡ true → Contains old.keys place ⊎ ((c : Tree) × (c ≡ t) × (place ≡ (out-Tree c).at))
    into true same h = inr (t, refl, sym (tied_one at place (sym same)))
    into false same h = inl (contained old place h)

    in_either : (tied : Bool) → (tied ≡ true) ⊎ (contains nat_cmp old place ≡ true) → cond tied true (contains nat_cmp old place) ≡ true
    in_either true h = refl
    in_either false h = ⊎_elim (λ k. cc) (λ k. k) h

    earlier : Contains old.keys place → cond (eq_by_cmp nat_cmp at place) true (contains nat_cmp old place) ≡ true
    earlier is = in_either (eq_by_cmp nat_cmp at place) (inr (holds old place is))

    is : (c : Tree) × (c ≡ t) × (place ≡ (out-Tree c).at) → cond (eq_by_cmp nat_cmp at place) true (contains nat_cmp old place) ≡ true
    is h = in_either (eq_by_cmp nat_cmp at place) (inl (one_tied at place (sym (h.2 ∙ ap (λ c. (out-Tree c).at) h.1))))

-- one of the items has it
abbrev pub InOne : {A : Type 0} → (A → Tree → Type 0) → List A → Tree → Type 0
InOne {A} Has items c = (item : A) × StandsIn items item × Has item c

-- the places of what the items have are put into a set as soon as those of what the rest has are
abbrev pub AddedSoFar : {A : Type 0} → (A → Tree → Type 0) → List A → List A → List ℕ → List ℕ → Type 0
AddedSoFar Has all rest old now = (new : List ℕ) → AddsPlaces (InOne Has rest) now new → AddsPlaces (InOne Has all) old new

module _ {A : Type 0} (Has : A → Tree → Type 0) (all rest : List A) (old : List ℕ) where
  -- at first none is put there
  pub added_none : rest ≡ all → AddedSoFar Has all rest old old
  added_none is new adds = subst (λ xs. AddsPlaces (InOne Has xs) old new) is adds

  module _ (now : List ℕ) (so_far : AddedSoFar Has all rest old now) where
    -- those of what one item has are put there
    pub added_one : (x : A) (later : List A) (next : List ℕ) → rest ≡ x ∷ later → AddsPlaces (Has x) now next → AddedSoFar Has all later old next
    added_one x later next is one new adds =
        so_far new (adds_same (λ c. Has x c ⊎ InOne Has later c) (InOne Has rest) now new
        (λ c. (
          λ h. ⊎_elim (λ k. (x, subst (λ xs. StandsIn xs x) (sym is) (stands_first x later), k))
              (λ k. (k.0, subst (λ xs. StandsIn xs k.0) (sym is) (stands_later x k.0 later k.1), k.2)) h,
          λ h. ⊎_elim (λ e. inl (subst (λ y. Has y c) e h.2)) (λ k. inr (h.0, k, h.2)) (first_or_later x h.0 later (subst (λ xs. StandsIn xs h.0) is h.1)),
        ))
        (adds_both (Has x) (InOne Has later) now next new one adds))

    -- and at the end all are
    pub added_all : rest ≡ [] → AddsPlaces (InOne Has all) old now
    added_all is = so_far now (adds_none (InOne Has rest) now (λ c h. nothing_stands h.0 (subst (λ xs. StandsIn xs h.0) is h.1)))

-- the child of an element is a constraint that may not stand there, or has one in it
pub data HasConstraint (e : Element) (child : Tree) : Tree → Type 0 where
  itself : LeavesOutConstraints e → IsConstraint child → HasConstraint e child child
  inside : {c : Tree} (g : Element) → IsChild e g child → IsConstraintIn g child c → HasConstraint e child c

-- what an element has in it that is read as the element of the table is what its children have
pub in_children : (e : Element) (t c : Tree) → InOne (HasConstraint e) (children_of t) c ↔ IsConstraintIn e t c
in_children e t c = (into, back)
  where
    into : InOne (HasConstraint e) (children_of t) c → IsConstraintIn e t c
    into (child, s, itself l k) = inner.child e t inner.itself l s k
    into (child, s, inside g is (inner.child f parent read l k h)) = inner.child f parent (inner.inside child is s read) l k h

    from : {g : Element} {parent : Tree} → IsReadIn e t g parent → LeavesOutConstraints g → StandsIn (children_of parent) c → IsConstraint c → InOne (HasConstraint e) (children_of t) c
    from inner.itself l s k = (c, s, itself l k)
    from {g = g} {parent = parent} (inner.inside child is stands read) l s k = (child, stands, inside _ is (inner.child g parent read l s k))

    back : IsConstraintIn e t c → InOne (HasConstraint e) (children_of t) c
    back (inner.child g parent read l s k) = from read l s k

-- a word is among the words where a test finds it
pub word_among : (words : List (Bor (List ℕ))) (word : List ℕ) (found : Bool) → found ≡ list_any (λ w. is_same w.now word) words → IsTrue found ↔ Contains (map (λ w. w.now) words) word
word_among words word found is =
    let same : list_any (λ (w : Bor (List ℕ)). is_same w.now word) words ≡ list_any (λ w. is_same w word) (map (λ w. w.now) words) = any_map (λ w. is_same w word) (λ w. w.now) words in
    let any = any_stands (λ w. is_same w word) (map (λ (w : Bor (List ℕ)). w.now) words) in (
      λ h. let s = any.0 (sym (is ∙ same) ∙ h) in subst (Contains (map (λ w. w.now) words)) (same_text s.0 word (sym s.2)) (contained_in (map (λ w. w.now) words) s.0 s.1),
      λ h. is ∙ same ∙ any.1 (word, standing (map (λ w. w.now) words) word h, same_from word word refl),
    )

-- the element itself, where this holds
abbrev pub IsOne : Type 0 → Tree → Tree → Type 0
IsOne Holds t c = Holds × (c ≡ t)

module _ (Holds : Type 0) (t : Tree) (old : BTreeSet ℕ) where
  -- its place is put into the set where it holds
  pub one_put : (new now : BTreeSet ℕ) → Holds → ((place : ℕ) → contains nat_cmp new place ≡ cond (eq_by_cmp nat_cmp (out-Tree t).at place) true (contains nat_cmp old place)) → now ≡ new
      → AddsPlaces (IsOne Holds t) old.keys now.keys
  one_put new now holds put same =
      subst (λ (s : BTreeSet ℕ). AddsPlaces (IsOne Holds t) old.keys s.keys) (sym same)
      (adds_same (λ c. c ≡ t) (IsOne Holds t) old.keys new.keys (λ c. (λ h. (holds, h), λ h. h.1)) (adds_place t old new put))

  -- and not where it does not
  pub none_put : (now : BTreeSet ℕ) → (Holds → ⊥) → now ≡ old → AddsPlaces (IsOne Holds t) old.keys now.keys
  none_put now other same =
      subst (λ (s : BTreeSet ℕ). AddsPlaces (IsOne Holds t) old.keys s.keys) (sym same) (adds_none (IsOne Holds t) old.keys (λ c h. other h.0))

-- one in an element, where it is read as an element of the table
abbrev pub IsInside : Option Element → Tree → Tree → Type 0
IsInside of t c = (g : Element) × (of ≡ Some g) × IsConstraintIn g t c

module _ (of : Option Element) (t : Tree) (old : BTreeSet ℕ) where
  -- those in an element that is read are put into the set
  pub inside_put : (g : Element) (new now : BTreeSet ℕ) → of ≡ Some g → AddsPlaces (IsConstraintIn g t) old.keys new.keys → now ≡ new → AddsPlaces (IsInside of t) old.keys now.keys
  inside_put g new now is adds same =
      subst (λ (s : BTreeSet ℕ). AddsPlaces (IsInside of t) old.keys s.keys) (sym same)
      (adds_same (IsConstraintIn g t) (IsInside of t) old.keys new.keys
      (λ c. (λ h. (g, is, h), λ h. subst (λ k. IsConstraintIn k t c) (same_Some _ _ (sym h.1 ∙ is)) h.2)) adds)

  -- in another are none
  pub inside_none : (now : BTreeSet ℕ) → of ≡ None → now ≡ old → AddsPlaces (IsInside of t) old.keys now.keys
  inside_none now none same =
      subst (λ (s : BTreeSet ℕ). AddsPlaces (IsInside of t) old.keys s.keys) (sym same)
      (adds_none (IsInside of t) old.keys (λ c h. let no : None ≡ Some h.0 = sym none ∙ h.1 in cc))

-- what the child of an element has is put there: itself, and then what is inside
pub child_put : (e : Element) (child : Tree) (old between new : List ℕ) → AddsPlaces (IsOne (LeavesOutConstraints e × IsConstraint child) child) old between
    → AddsPlaces (IsInside (child_in (form_at e) child) child) between new → AddsPlaces (HasConstraint e child) old new
child_put e child old between new one in_it =
    adds_same (λ c. IsOne (LeavesOutConstraints e × IsConstraint child) child c ⊎ IsInside (child_in (form_at e) child) child c) (HasConstraint e child) old new
    (λ c. (λ h. ⊎_elim (λ k. subst (HasConstraint e child) (sym k.1) (itself k.0.0 k.0.1)) (λ k. inside k.0 k.1 k.2) h, back c))
    (adds_both (IsOne (LeavesOutConstraints e × IsConstraint child) child) (IsInside (child_in (form_at e) child) child) old between new one in_it)
  where
    back : (c : Tree) → HasConstraint e child c → IsOne (LeavesOutConstraints e × IsConstraint child) child c ⊎ IsInside (child_in (form_at e) child) child c
    back c (itself l k) = inl ((l, k), refl)
    back c (inside g is h) = inr (g, is, h)

-- a text is passed: the elements from it on are those after it
pub text_passed : (nodes : List Node) (i : ℕ) (n : Node) (bytes : List ℕ) → i < length nodes → n ≡ get_or nodes i n → n ≡ Text bytes
    → elements_of (drop i nodes) ≡ elements_of (drop (i + 1) nodes)
text_passed nodes i n bytes h at is = ap elements_of (begins nodes i n h at) ∙ ap (λ ts. ts ++ elements_of (drop (i + 1) nodes)) (text_shown n bytes is)
