-- The law of bounds: a number of pieces that is within bounds is the least number of them and then at most so many, or any number.
use Rattle.std.proofs.Common.{◌≡◌, ◌≤◌, ◌+◌, ◌⊎◌, ℕ, zero, suc, List, [], ◌∷◌, ◌++◌, refl, ap, subst, ◌∙◌, inl, inr, arith}
use Rattle.std.specs.List.{AllByRecursion}
use Rattle.odd_patterns.specs.Pieces.{joined, Then, Repeated}
use Rattle.odd_patterns.proofs.Pieces.{Same, IsEmpty, empty_then, same_then, same_trans, then_again}
use Rattle.rng_matching.specs.Times.{Times, Within}

-- one number is at most the other, or beyond it by some
at_most_or : (h n : ℕ) → (n ≤ h) ⊎ ((k : ℕ) × (n ≡ h + 1 + k))
at_most_or h zero = inl (omega arith)
at_most_or zero (suc n) = inr (n, omega arith)
at_most_or (suc h) (suc n) = elim (at_most_or h n) [ inl l ↦ inl (omega arith) | inr b ↦ inr (b.0, omega (arith, b.1)) ]

module _ {S : Type 0} where
  pub same_back : (P Q : List S → Type 0) → Same P Q → Same Q P
  same_back P Q h w = ((h w).1, (h w).0)

  pub same_self : (P : List S → Type 0) → Same P P
  same_self P w = (λ m. m, λ m. m)

  -- the same sets have the same words in pieces
  pub same_times : (P Q : List S → Type 0) (n : ℕ) → Same P Q → Same (Times P n) (Times Q n)
  same_times P Q zero h = same_self IsEmpty
  same_times P Q (suc n) h = same_then P (Times P n) Q (Times Q n) h (same_times P Q n h)

  pub same_within : (B : ℕ → Type 0) (P Q : List S → Type 0) → Same P Q → Same (Within B P) (Within B Q)
  same_within B P Q h w = (
    λ m. (m.0, m.1, (same_times P Q m.0 h w).0 m.2),
    λ m. (m.0, m.1, (same_times P Q m.0 h w).1 m.2),
  )

  -- so many pieces and then others are their sum
  pub times_sum : (P : List S → Type 0) (m n : ℕ) → Same (Then (Times P m) (Times P n)) (Times P (m + n))
  times_sum P zero n =
      let e : n ≡ zero + n = omega arith in
      subst (λ k. Same (Then IsEmpty (Times P n)) (Times P k)) e (same_back (Times P n) (Then IsEmpty (Times P n)) (empty_then (Times P n)))
  times_sum P (suc m) n =
      let e : suc (m + n) ≡ suc m + n = omega arith in
      let rest = Then (Times P m) (Times P n) in
      subst (λ k. Same (Then (Then P (Times P m)) (Times P n)) (Times P k)) e
      (same_trans (Then (Then P (Times P m)) (Times P n)) (Then P rest) (Then P (Times P (m + n))) (then_again P (Times P m) (Times P n))
      (same_then P rest P (Times P (m + n)) (same_self P) (times_sum P m n)))

  -- so many pieces and then a number of them, where the numbers fit by their sum
  pub shifted : (P : List S → Type 0) (m : ℕ) (B C : ℕ → Type 0) → ((k : ℕ) → B k → C (m + k)) → ((n : ℕ) → C n → (k : ℕ) × (n ≡ m + k) × B k)
      → Same (Then (Times P m) (Within B P)) (Within C P)
  shifted P m B C up down w = (
    λ x. (m + x.4.0, up x.4.0 x.4.1, (times_sum P m x.4.0 w).0 (x.0, x.1, x.2, x.3, x.4.2)),
    λ x.
        let d = down x.0 x.1 in
        let t = (times_sum P m d.0 w).1 (subst (λ n. Times P n w) d.1 x.2) in
        (t.0, t.1, t.2, t.3, (d.0, d.2, t.4)),
  )

  -- no piece at most is the empty word
  pub none_at_most : (P : List S → Type 0) → Same IsEmpty (Within (λ n. n ≤ 0) P)
  none_at_most P w = (
    λ e. (0, omega arith, e),
    λ m. let z : m.0 ≡ 0 = omega (arith, m.1) in subst (λ n. Times P n w) z m.2,
  )

  -- a few pieces, or one more than that and then the others
  pub by_halves : (P : List S → Type 0) (h j n : ℕ) → n ≡ h + 1 + j
      → Same (λ w. Within (λ k. k ≤ h) P w ⊎ Then (Times P (h + 1)) (Within (λ k. k ≤ j) P) w) (Within (λ k. k ≤ n) P)
  by_halves P h j n e w = (
    λ m. elim m [
      | inl x ↦ (x.0, omega (arith, x.1), x.2)
      | inr y ↦ (h + 1 + y.4.0, omega (arith, y.4.1), (times_sum P (h + 1) y.4.0 w).0 (y.0, y.1, y.2, y.3, y.4.2))
    ],
    λ m. elim (at_most_or h m.0) [
      | inl l ↦ inl (m.0, l, m.2)
      | inr b ↦ let t = (times_sum P (h + 1) b.0 w).1 (subst (λ k. Times P k w) b.1 m.2) in inr (t.0, t.1, t.2, t.3, (b.0, omega (arith, b.1, m.1), t.4))
    ],
  )

  -- pieces by their number, and as a list
  listed : (P : List S → Type 0) (n : ℕ) (w : List S) → Times P n w → (ws : List (List S)) × (w ≡ joined ws) × AllByRecursion P ws
  listed P zero w e = ([], e, tt)
  listed P (suc n) w m =
      let r = listed P n m.1 m.4 in
      (m.0 ∷ r.0, m.2 ∙ ap (λ v. m.0 ++ v) r.1, (m.3, r.2))

  counted : (P : List S → Type 0) (ws : List (List S)) → AllByRecursion P ws → (n : ℕ) × Times P n (joined ws)
  counted P [] a = (0, refl)
  counted P (w ∷ ws) a = let r = counted P ws a.1 in (suc r.0, (w, joined ws, refl, a.0, r.1))

  some_of : (P : List S → Type 0) (n : ℕ) (w : List S) → Times P n w → IsEmpty w ⊎ Repeated P w
  some_of P zero w e = inl e
  some_of P (suc n) w t = let l = listed P n t.1 t.4 in inr (t.0, l.0, t.2 ∙ ap (λ v. t.0 ++ v) l.1, t.3, l.2)

  -- any number of pieces is none or some
  pub any_number_is : (P : List S → Type 0) → Same (λ w. IsEmpty w ⊎ Repeated P w) (Within (λ n. Unit {0}) P)
  any_number_is P w = (
    λ m. elim m [
      | inl e ↦ (0, tt, e)
      | inr r ↦ let c = counted P r.1 r.4 in (suc c.0, tt, (r.0, joined r.1, r.2, r.3, c.1))
    ],
    λ m. some_of P m.0 w m.2,
  )
