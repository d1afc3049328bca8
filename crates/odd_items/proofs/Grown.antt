-- Lists that have grown by some items, and the arrows that come of it.
use Rattle.std.proofs.Common.{◌≡◌, ◌↔◌, ◌⊎◌, inl, inr, ⊎_elim, ℕ, ◌+◌, ◌<◌, ◌≤◌, List, [], length, get_or, set, Some, None, Option, refl, sym, ◌∙◌, subst, arith}
use Rattle.std.proofs.Math.ListN.{length-set}
use Rattle.std.proofs.lemmas.Grind.{common_steps}
use Rattle.std.proofs.lemmas.List.{get_or_read}
use Rattle.std.proofs.lemmas.Option.{same_Some, slice_get_within, slice_get_read}
use Rattle.std.specs.List.{Contains, All}
use Rattle.odd_graph.proofs.OneMore.{stands_at}
use Rattle.odd_graph.specs.Graph.{HasArrow}
use Rattle.odd_tree.specs.Elements.{children_of}
use Rattle.odd_items.proofs.Placed.{before_or_here}
use Rattle.odd_items.specs.Arrows.{HasGrown, IsGroupIn, IsInside, IsReferred, RefersAmong}
use Rattle.odd_items.specs.Holding.{IsAt, LeadsTo, inside, referred}
use Rattle.odd_items.specs.declared.searching.Kept.{Kept}

-- to what was added more was added
pub grown_on : (lists made more : List (List ℕ)) (Before After Added : ℕ → ℕ → Type 0) → HasGrown lists made Before → HasGrown made more After
    → ((holder place : ℕ) → Added holder place ↔ (Before holder place ⊎ After holder place)) → HasGrown lists more Added
grown_on lists made more Before After Added before after either = record {
  same = after.same ∙ before.same;
  grown = λ holder place. grind (arith, before.same, before.grown holder place, after.grown holder place, either holder place);
}

-- what was added was the same as this
pub grown_as : (lists made : List (List ℕ)) (Before Added : ℕ → ℕ → Type 0) → HasGrown lists made Before → ((holder place : ℕ) → Added holder place ↔ Before holder place) → HasGrown lists made Added
grown_as lists made Before Added before same = record {
  same = before.same;
  grown = λ holder place. grind (arith, before.grown holder place, same holder place);
}

-- one of the lists has grown
pub grown_one : (lists : List (List ℕ)) (i : ℕ) (list new : List ℕ) (Added : ℕ → Type 0) → i < length lists → list ≡ get_or lists i list
    → ((place : ℕ) → Contains new place ↔ (Contains list place ⊎ Added place)) → HasGrown lists (set lists i new) (λ from to. (i ≡ from) × Added to)
grown_one lists i list new Added within is more = record {
  same = length-set lists i new;
  grown = λ holder place. one holder place (stands_at lists i new [] within holder);
}
  where
    old : get_or lists i [] ≡ list
    old = sym (get_or_read lists i list within is [])

    one : (holder place : ℕ) → ((i ≡ holder) × (get_or (set lists i new) holder [] ≡ new) × (get_or lists i [] ≡ get_or lists holder [])) ⊎ ((i ≡ holder → ⊥) × (get_or (set lists i new) holder [] ≡ get_or lists holder []))
        → Contains (get_or (set lists i new) holder []) place ↔ (Contains (get_or lists holder []) place ⊎ (((i ≡ holder) × Added place) × (holder < length lists)))
    one holder place (inl h) =
        rw (h.1, ← h.2, old) (
          λ c. ⊎_elim inl (λ a. inr ((h.0, a), omega (arith, h.0, within))) ((more place).0 c),
          λ s. (more place).1 (⊎_elim inl (λ a. inr a.0.1) s),
        )
    one holder place (inr h) = rw h.1 (inl, λ s. ⊎_elim (λ c. c) (λ a. absurd (h.0 a.0.0)) s)

-- before a place
abbrev pub IsBefore : (ℕ → Type 0) → ℕ → (ℕ → Type 0)
IsBefore Is end place = (place < end) × Is place

-- what holds before the next place
pub next_before : (Is Here : ℕ → Type 0) (end place : ℕ) → ((end ≡ place) → Is place → Here place) → (Here place → (end ≡ place) × Is place) → IsBefore Is (end + 1) place ↔ (IsBefore Is end place ⊎ Here place)
next_before Is Here end place there back = (
  λ b. ⊎_elim (λ less. inl (less, b.1)) (λ e. inr (there e b.1)) (before_or_here place end b.0),
  λ s. ⊎_elim (λ b. (omega (arith, b.0), b.1)) (λ h. let is = back h in (omega (arith, is.0), is.1)) s,
)

-- what is kept at a place is one
pub same_kept : (keeps : List Kept) (place : ℕ) (one other : Kept) → IsAt keeps place one → IsAt keeps place other → one ≡ other
same_kept keeps place one other at also = same_Some _ _ (sym at ∙ also)

-- what is read at a place
pub kept_at : (keeps : List Kept) (i : ℕ) (kept : Kept) → i < length keeps → kept ≡ get_or keeps i kept → IsAt keeps i kept
kept_at keeps i kept within is = slice_get_read keeps (length keeps) i kept refl within is

-- the groups before a place, with the one there, which is a child of what is at `parent`
pub inside_next : (keeps : List Kept) (end parent : ℕ) (kept : Kept) (o : Option ℕ) → IsAt keeps end kept → ((h : ℕ) → (o ≡ Some h) ↔ IsGroupIn kept h) → o ≡ Some parent
    → (holder place : ℕ) → ((place < end + 1) × IsInside keeps holder place) ↔ (((place < end) × IsInside keeps holder place) ⊎ ((parent ≡ holder) × (end ≡ place)))
inside_next keeps end parent kept o at is some holder place = next_before (IsInside keeps holder) (λ to. (parent ≡ holder) × (end ≡ to)) end place there back
  where
    there : end ≡ place → IsInside keeps holder place → (parent ≡ holder) × (end ≡ place)
    there e i =
        let same = same_kept keeps end i.0 kept (subst (λ n. IsAt keeps n i.0) (sym e) i.1) at in
        (same_Some _ _ (sym some ∙ (is holder).1 (subst (λ k. IsGroupIn k holder) same i.2)), e)

    back : (parent ≡ holder) × (end ≡ place) → (end ≡ place) × IsInside keeps holder place
    back h = (h.1, (kept, subst (λ n. IsAt keeps n kept) h.1 at, subst (IsGroupIn kept) h.0 ((is parent).0 some)))

-- what is there is no group that is a child
pub inside_skip : (keeps : List Kept) (end : ℕ) (kept : Kept) (o : Option ℕ) → IsAt keeps end kept → ((h : ℕ) → (o ≡ Some h) ↔ IsGroupIn kept h) → o ≡ None
    → (holder place : ℕ) → ((place < end + 1) × IsInside keeps holder place) ↔ ((place < end) × IsInside keeps holder place)
inside_skip keeps end kept o at is none holder place = (
  λ b. ⊎_elim (λ less. (less, b.1)) (λ e. absurd (other e b.1)) (before_or_here place end b.0),
  λ b. (omega (arith, b.0), b.1),
)
  where
    other : end ≡ place → IsInside keeps holder place → ⊥
    other e i =
        let same = same_kept keeps end i.0 kept (subst (λ n. IsAt keeps n i.0) (sym e) i.1) at in
        let some : None ≡ Some holder = sym none ∙ (is holder).1 (subst (λ k. IsGroupIn k holder) same i.2) in
        cc

-- at the end they are all
pub inside_all : (keeps : List Kept) (end : ℕ) → length keeps ≤ end → (holder place : ℕ) → IsInside keeps holder place ↔ ((place < end) × IsInside keeps holder place)
inside_all keeps end past holder place = (λ i. (omega (arith, past, slice_get_within keeps place i.0 i.1), i), λ b. b.1)

-- the places that refer to groups, with the next
pub referred_next : (keeps : List Kept) (First : List ℕ → ℕ → Type 0) (end : ℕ) (kept : Kept) → IsAt keeps end kept
    → (holder place : ℕ) → ((holder < end + 1) × IsReferred keeps First holder place) ↔ (((holder < end) × IsReferred keeps First holder place) ⊎ ((end ≡ holder) × RefersAmong First (children_of kept.tree.now) place))
referred_next keeps First end kept at holder place =
    next_before (λ from. IsReferred keeps First from place) (λ from. (end ≡ from) × RefersAmong First (children_of kept.tree.now) place) end holder there back
  where
    there : end ≡ holder → IsReferred keeps First holder place → (end ≡ holder) × RefersAmong First (children_of kept.tree.now) place
    there e i =
        let same = same_kept keeps end i.0 kept (subst (λ n. IsAt keeps n i.0) (sym e) i.1) at in
        (e, subst (λ (k : Kept). RefersAmong First (children_of k.tree.now) place) same i.2)

    back : (end ≡ holder) × RefersAmong First (children_of kept.tree.now) place → (end ≡ holder) × IsReferred keeps First holder place
    back h = (h.0, (kept, subst (λ n. IsAt keeps n kept) h.0 at, h.1))

-- at the end they are all
pub referred_all : (keeps : List Kept) (First : List ℕ → ℕ → Type 0) (end : ℕ) → length keeps ≤ end
    → (holder place : ℕ) → IsReferred keeps First holder place ↔ ((holder < end) × IsReferred keeps First holder place)
referred_all keeps First end past holder place = (λ i. (omega (arith, past, slice_get_within keeps holder i.0 i.1), i), λ b. b.1)

-- lists that are empty contain nothing
pub empty_contain : (lists : List (List ℕ)) (holder place : ℕ) → All (λ list. list ≡ []) lists → holder < length lists → Contains (get_or lists holder []) place → ⊥
empty_contain lists holder place all within c = grind (arith, common_steps, all, c, within)

-- what leads to what
pub leads : (keeps : List Kept) (First : List ℕ → ℕ → Type 0) (holder place : ℕ) → LeadsTo keeps First holder place ↔ (IsInside keeps holder place ⊎ IsReferred keeps First holder place)
leads keeps First holder place = (there, λ s. ⊎_elim (λ i. inside i.0 i.1 i.2.0 i.2.1) (λ r. referred r.0 r.2.0 r.2.2.0 r.1 r.2.1 r.2.2.1 r.2.2.2) s)
  where
    there : LeadsTo keeps First holder place → IsInside keeps holder place ⊎ IsReferred keeps First holder place
    there (inside kept at parent is) = inl (kept, at, (parent, is))
    there (referred kept reference id at stands refers first) = inr (kept, at, (reference, stands, (id, refers, first)))

-- the arrows that empty lists have got
pub arrows_got : (keeps : List Kept) (First : List ℕ → ℕ → Type 0) (lists made more : List (List ℕ)) → length lists ≡ length keeps → All (λ list. list ≡ []) lists → HasGrown lists made (IsInside keeps)
    → HasGrown made more (IsReferred keeps First) → (holder place : ℕ) → holder < length keeps → place < length keeps → HasArrow more holder place ↔ LeadsTo keeps First holder place
arrows_got keeps First lists made more count all in_it by_it holder place from to = (
  λ a. (leads keeps First holder place).1 (⊎_elim (λ c. inl (⊎_elim (λ e. absurd (empty_contain lists holder place all (omega (arith, count, from)) e)) (λ i. i.0) ((in_it.grown holder place).0 c))) (λ r. inr r.0) ((by_it.grown holder place).0 a.among)),
  λ l. record {
    among = (by_it.grown holder place).1 (⊎_elim (λ i. inl ((in_it.grown holder place).1 (inr (i, omega (arith, count, from))))) (λ r. inr (r, omega (arith, count, from, in_it.same))) ((leads keeps First holder place).0 l));
    within = omega (arith, count, to, in_it.same, by_it.same);
  },
)
