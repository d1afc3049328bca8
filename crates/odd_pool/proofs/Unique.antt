-- A pool stays one as a node comes.
use Rattle.std.proofs.Common.{◌≡◌, ℕ, zero, suc, Bool, true, false, List, [], ◌∷◌, ◌++◌, length, Some, refl, sym, ap, subst, ◌∙◌, inl, inr, slice_get, ◌||◌, if◌then◌else◌}
use Rattle.std.specs.Prelude.{Result, Ok, Err, IfOk, OnErr}
use Rattle.std.specs.List.{list_any}
use Rattle.std.specs.Cmp.{IsEquivalence}
use Rattle.indexmap.specs.IndexSet.{insert_key}
use Rattle.odd_pool.specs.Pool.{IsPooled, IsPut, IsRight, NoTwo, Grows, patterns}
use Rattle.odd_pool.specs.declared.node.Node.{Node}
use Rattle.odd_pool.proofs.Kept.{right_more, at_old_or_last, grows_none}

module _ {X : Type 0} (eq : X → X → Bool) (n : X) (same : eq n n ≡ true) where
  or_true : (b : Bool) → (b || true) ≡ true
  or_true true = refl
  or_true false = refl

  among : (xs : List X) (i : ℕ) → slice_get xs i ≡ Some n → list_any (eq n) xs ≡ true
  among [] i e = cc
  among (y ∷ xs) zero e = let is : y ≡ n = cc in ap (λ z. eq n z || list_any (eq n) xs) is ∙ ap (λ b. b || list_any (eq n) xs) same
  among (y ∷ xs) (suc i) e = ap (λ b. eq n y || b) (among xs i e) ∙ or_true (eq n y)

module _ {X : Type 0} where
  -- the keys after the insertion, also one that failed
  pub put_result : {E : Type 0} (eq : X → X → Bool) → IsEquivalence eq → (result : Result (ℕ × Bool) E) (old new : List X) (n : X) → IfOk result (λ r. new ≡ insert_key eq old n) → OnErr result (new ≡ old)
      → IsPut old new n
  put_result eq laws (Ok r) old new n k f = elim (list_any (eq n) old) as (λ b. list_any (eq n) old ≡ b → new ≡ (if b then old else old ++ n ∷ []) → IsPut old new n) [
    | true ↦ λ e is. inl is
    | false ↦ λ e is. inr (is, λ i there. let holds = among eq n (laws.refl n) old i there in cc)
  ] refl k
  put_result eq laws (Err r) old new n k f = inl f

  pub put_grows : (old new : List X) (n : X) → IsPut old new n → Grows old new
  put_grows old new n (inl e) = subst (λ xs. Grows old xs) (sym e) (grows_none old)
  put_grows old new n (inr e) = (n ∷ [], e.0)

  two_more : (old : List X) (n : X) → NoTwo old → ((i : ℕ) → slice_get old i ≡ Some n → ⊥) → NoTwo (old ++ n ∷ [])
  two_more old n u none x i j e f = elim (at_old_or_last old n i x e) [
    | inl a ↦ elim (at_old_or_last old n j x f) [
      | inl b ↦ u x i j a b
      | inr b ↦ absurd (none i (subst (λ z. slice_get old i ≡ Some z) b.1 a))
    ]
    | inr a ↦ elim (at_old_or_last old n j x f) [
      | inl b ↦ absurd (none j (subst (λ z. slice_get old j ≡ Some z) a.1 b))
      | inr b ↦ a.0 ∙ sym b.0
    ]
  ]

module _ {L : Type 0} where
  pub pooled_after : (old new : List (Node L)) (n : Node L) → IsPut old new n → IsPooled old → IsRight (patterns old) n (length old) → IsPooled new
  pooled_after old new n (inl e) h r = subst (λ ns. IsPooled ns) (sym e) h
  pooled_after old new n (inr e) h r = subst (λ ns. IsPooled ns) (sym e.0) (right_more old n h.0 r, two_more old n h.1 e.1)
