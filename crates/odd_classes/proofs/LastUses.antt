-- The last place in an order at which a node stands that has an arrow to another.
use Rattle.std.proofs.Common.{◌≡◌, ◌<◌, ◌+◌, ◌⊎◌, inl, inr, ⊎_elim, ℕ, zero, suc, List, [], ◌∷◌, Some, length, get_or, set, slice_get, take, sym, ap, subst, arith, ◌∙◌}
use Rattle.std.proofs.Math.ListN.{length-set}
use Rattle.std.proofs.lemmas.Bool.{cases_lt}
use Rattle.std.proofs.lemmas.Option.{same_Some, slice_get-get_or}
use Rattle.std.specs.List.{Contains}
use Rattle.odd_graph.proofs.OneMore.{contains_next, stands_at}
use Rattle.odd_graph.specs.Graph.{HasArrow}
use Rattle.odd_classes.specs.Inheriting.{AreLastUses, IsNodeAt, IsUsedAt}

-- what stands at a place of the front of a list stands there in the list
pub node_in_front : (xs : List ℕ) (i at n : ℕ) → slice_get (take i xs) at ≡ Some n → (at < i) × (slice_get xs at ≡ Some n)
node_in_front [] zero at n h = cc
node_in_front [] (suc i) at n h = cc
node_in_front (x ∷ xs) zero at n h = cc
node_in_front (x ∷ xs) (suc i) zero n h = (omega arith, h)
node_in_front (x ∷ xs) (suc i) (suc at) n h = let r = node_in_front xs i at n h in (omega (arith, r.0), r.1)

-- and the other way round
pub front_of_node : (xs : List ℕ) (i at n : ℕ) → at < i → slice_get xs at ≡ Some n → slice_get (take i xs) at ≡ Some n
front_of_node [] i at n l h = cc
front_of_node (x ∷ xs) zero at n l h = absurd (omega arith)
front_of_node (x ∷ xs) (suc i) zero n l h = h
front_of_node (x ∷ xs) (suc i) (suc at) n l h = front_of_node xs i at n (omega arith) h

module _ (nodes : List ℕ) (i : ℕ) (within : i < length nodes) (at : ℕ) (old now : List ℕ) (so : IsUsedAt (take i nodes) at old now) where
  -- the place is kept for the next node
  pub next_used : get_or nodes i 0 < length now → IsUsedAt (take (i + 1) nodes) at old (set now (get_or nodes i 0) at)
  next_used inside = record {
    same = length-set now (get_or nodes i 0) at ∙ so.same;
    used = λ n c l.
        elim (stands_at now (get_or nodes i 0) at 0 inside n) [
          | inl here ↦ here.1
          | inr other ↦ other.1 ∙ ⊎_elim (λ earlier. so.used n earlier l) (λ is. absurd (other.0 is)) ((contains_next nodes i 0 n within).0 c)
        ];
    each = λ n. elim (stands_at now (get_or nodes i 0) at 0 inside n) [ inl here ↦ inl here.1 | inr other ↦ ⊎_elim (λ h. inl (other.1 ∙ h)) (λ h. inr (other.1 ∙ h)) (so.each n) ];
  }

  -- where it is no node of the list, nothing is
  pub next_unused : (get_or nodes i 0 < length now → ⊥) → IsUsedAt (take (i + 1) nodes) at old now
  next_unused outside = record {
    same = so.same;
    used = λ n c l. ⊎_elim (λ earlier. so.used n earlier l) (λ is. absurd (outside (omega (arith, is, l, so.same)))) ((contains_next nodes i 0 n within).0 c);
    each = so.each;
  }

module _ (arrows : List (List ℕ)) (order : List ℕ) (i : ℕ) (within : i < length order) (old : List ℕ) (so : AreLastUses arrows (take i order) old × (length old ≡ length arrows)) where
  -- a node of the front with one more is one of the front, or the next
  front_or_next : (at n : ℕ) → IsNodeAt (take (i + 1) order) at n → IsNodeAt (take i order) at n ⊎ ((at ≡ i) × (n ≡ get_or order i 0))
  front_or_next at n h =
      let front = node_in_front order (i + 1) at n h in
      elim (cases_lt at i) [
        | inl lt ↦ inl (front_of_node order i at n lt front.1)
        | inr ge ↦
            let same : at ≡ i = omega (arith, front.0) in
            inr (same, same_Some _ _ (sym front.1 ∙ ap (slice_get order) same ∙ slice_get-get_or order i 0 within))
      ]

  -- the last places with those of the next node's arrows
  pub next_uses : (new : List ℕ) → IsUsedAt (get_or arrows (get_or order i 0) []) i old new → AreLastUses arrows (take (i + 1) order) new × (length new ≡ length arrows)
  next_uses new used = (
    λ at n next h arrow. ⊎_elim
        (λ earlier. let before = node_in_front order i at n earlier in let last = so.0 at n next earlier arrow in ⊎_elim (λ e. omega (arith, e, before.0)) (λ e. omega (arith, e, last)) (used.each next))
        (λ here.
        let a = subst (λ m. HasArrow arrows m next) here.1 arrow in
        let e = used.used next a.among (omega (arith, a.within, so.1)) in
        omega (arith, e, here.0)) (front_or_next at n h),
    used.same ∙ so.1,
  )

  -- a node without arrows has none
  pub no_uses : get_or arrows (get_or order i 0) [] ≡ [] → AreLastUses arrows (take (i + 1) order) old × (length old ≡ length arrows)
  no_uses none = (
    λ at n next h arrow. ⊎_elim (λ earlier. so.0 at n next earlier arrow)
        (λ here.
        let a = subst (λ m. HasArrow arrows m next) here.1 arrow in
        let c = subst (λ ns. Contains ns next) none a.among in
        absurd (omega (arith, c.1))) (front_or_next at n h),
    so.1,
  )
