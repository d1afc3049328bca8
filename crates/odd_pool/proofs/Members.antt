-- What a list has.
use Rattle.std.proofs.Common.{◌≡◌, ℕ, zero, suc, ◌<◌, List, [], ◌∷◌, length, Some, sym, subst, inl, inr, slice_get, arith}
use Rattle.std.specs.Prelude.{Result, Ok, Err, OnOk}
use Rattle.std.specs.List.{All, Contains}
use Rattle.std.proofs.lemmas.List.Elements.{All-contains, All-contains_itself, All-weaker, Contains-append_left, Contains-push_cases}
use Rattle.odd_pool.specs.Left.{HasOneMore}
use Rattle.odd_pool.specs.Pool.{IsPut}

module _ {X : Type 0} where
  pub contains_at : (xs : List X) (k : ℕ) (x : X) → slice_get xs k ≡ Some x → Contains xs x
  contains_at [] k x e = cc
  contains_at (y ∷ xs) zero x e = let is : y ≡ x = cc in (0, omega arith, is)
  contains_at (y ∷ xs) (suc k) x e = let m = contains_at xs k x e in let h = m.1 in (suc m.0, omega arith, m.2)

  pub none_there : (x : X) → Contains [] x → ⊥
  none_there x m = let h = m.1 in omega arith

  pub only_one : (xs : List X) (x y : X) → length xs < 2 → slice_get xs 0 ≡ Some x → Contains xs y → y ≡ x
  only_one [] x y few e m = absurd (none_there y m)
  only_one (z ∷ []) x y few e (zero, h, f) = cc
  only_one (z ∷ []) x y few e (suc k, h, f) = absurd (omega arith)
  only_one (z ∷ w ∷ zs) x y few e m = absurd (omega arith)

  -- what is put in a set is there, with all that was there
  pub one_more : (old new : List X) (x : X) (k : ℕ) → IsPut old new x → slice_get new k ≡ Some x → HasOneMore old new x
  one_more old new x k (inl e) there y = (
    λ m. inl (subst (λ xs. Contains xs y) e m),
    λ m. elim m [ inl a ↦ subst (λ xs. Contains xs y) (sym e) a | inr b ↦ subst (λ z. Contains new z) (sym b) (contains_at new k x there) ],
  )
  one_more old new x k (inr e) there y = (
    λ m. elim (Contains-push_cases old x y (subst (λ xs. Contains xs y) e.0 m)) [ inl a ↦ inl a | inr b ↦ inr (sym b) ],
    λ m. elim m [
      | inl a ↦ subst (λ xs. Contains xs y) (sym e.0) (Contains-append_left old (x ∷ []) y a)
      | inr b ↦ subst (λ z. Contains new z) (sym b) (contains_at new k x there)
    ],
  )

  pub all_more : (P : X → Type 0) (old new : List X) (x : X) → HasOneMore old new x → All P old → P x → All P new
  all_more P old new x h all p = All-weaker (Contains new) P (λ y c. elim ((h y).0 c) [ inl a ↦ All-contains P old y all a | inr b ↦ subst P (sym b) p ]) new (All-contains_itself new)

pub on_ok : {T E : Type 0} (r : Result T E) (P Q : Type 0) → (P → Q) → OnOk r P → OnOk r Q
on_ok (Ok x) P Q f h = f h
on_ok (Err x) P Q f h = h
