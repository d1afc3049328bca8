-- What the patterns for a number of times match.
use Rattle.std.proofs.Common.{◌≡◌, ◌≤◌, ◌<◌, ◌+◌, ◌-◌, ℕ, zero, suc, Bool, List, Option, Some, None, refl, sym, subst, ◌∙◌, inl, inr, arith, replicate}
use denote.Hole.Carrier.{hidden}
use Rattle.odd_patterns.specs.Pieces.{Then}
use Rattle.odd_patterns.specs.Words.{EachMatches, IsGroupOf, Matches, SameWords}
use Rattle.odd_patterns.specs.declared.pattern.Pat.{Pat}
use Rattle.odd_patterns.specs.declared.pattern.Pat.TheBlock.{hidden-the_row-Pat-0}
use Rattle.odd_patterns.specs.declared.pattern.Pat.TheVariants.{Never, Empty, Choice, Group, More}
use Rattle.odd_patterns.proofs.Pieces.{Same, IsEmpty, same_then, same_trans}
use Rattle.rng_types.specs.declared.bounds.Bounds.{Bounds}
use Rattle.rng_dialect.specs.Matching.{IsWithin}
use Rattle.rng_matching.specs.Making.{IsFollowed, IsTimes, IsWithinOf}
use Rattle.rng_matching.specs.Times.{Times, Within}
use Rattle.rng_matching.proofs.Bounding.{any_number_is, by_halves, none_at_most, same_self, shifted}

is_some : (m n : ℕ) → Some m ≡ Some n → m ≡ n
is_some m n e = cc

pub none_of : (o : Option ℕ) → ((n : ℕ) → o ≡ Some n → ⊥) → o ≡ None
none_of None h = refl
none_of (Some n) h = absurd (h n refl)

module _ {A L S : Type 0} where
  -- copies one after the other
  copies_are : (takes : L → S → Bool) (p : Pat A L S) (n : ℕ) → Same (EachMatches takes (replicate n p)) (Times (Matches takes p) n)
  copies_are takes p zero = same_self IsEmpty
  copies_are takes p (suc n) =
      same_then (Matches takes p) (EachMatches takes (replicate n p)) (Matches takes p) (Times (Matches takes p) n) (same_self (Matches takes p)) (copies_are takes p n)

  pub copies_made : (p made : Pat A L S) (n : ℕ) (parts : List (Pat A L S)) → parts ≡ replicate n p → IsGroupOf parts made → IsTimes n p made
  copies_made p made n parts e g takes w =
      let h = subst (λ ps. IsGroupOf ps made) e g in
      same_trans (Matches takes made) (EachMatches takes (replicate n p)) (Times (Matches takes p) n) (h takes) (copies_are takes p n) w

  -- none at most
  pub none_made : (p : Pat A L S) (n : ℕ) → n ≡ 0 → IsWithinOf (λ k. k ≤ n) p Empty
  none_made p n e = subst (λ m. IsWithinOf (λ k. k ≤ m) p Empty) (sym e) (λ takes. none_at_most (Matches takes p))

  -- at most so many, by halves
  pub halves_made : (p few some others many made : Pat A L S) (h j n : ℕ) → n ≡ h + 1 + j → IsWithinOf (λ k. k ≤ h) p few → IsTimes (h + 1) p some → IsWithinOf (λ k. k ≤ j) p others
      → SameWords many (Group some others) → SameWords made (Choice few many) → IsWithinOf (λ k. k ≤ n) p made
  unfolding hidden-the_row-Pat-0 hidden
  halves_made p few some others many made h j n e a b c d f takes w =
      let halves = by_halves (Matches takes p) h j n e w in
      let behind = same_then (Matches takes some) (Matches takes others) (Times (Matches takes p) (h + 1)) (Within (λ k. k ≤ j) (Matches takes p)) (b takes) (c takes) w in (
        λ m. halves.0 (elim ((f takes w).0 m) [ inl x ↦ inl ((a takes w).0 x) | inr y ↦ inr (behind.0 ((d takes w).0 y)) ]),
        λ m. (f takes w).1 (elim (halves.1 m) [ inl x ↦ inl ((a takes w).1 x) | inr y ↦ inr ((d takes w).1 (behind.1 y)) ]),
      )

  -- any number
  pub any_made : (p again some made : Pat A L S) → again ≡ p → SameWords some (More again) → SameWords made (Choice Empty some) → IsWithinOf (λ k. Unit {0}) p made
  unfolding hidden-the_row-Pat-0 hidden
  any_made p again some made e a b takes w =
      let one = subst (λ q. SameWords some (More q)) e a in
      let any = any_number_is (Matches takes p) w in (
        λ m. any.0 (elim ((b takes w).0 m) [ inl x ↦ inl x | inr y ↦ inr ((one takes w).0 y) ]),
        λ m. (b takes w).1 (elim (any.1 m) [ inl x ↦ inl x | inr y ↦ inr ((one takes w).1 y) ]),
      )

  -- so many times and then another
  pub followed_made : (p least rest made : Pat A L S) (n : ℕ) → IsTimes n p least → SameWords made (Group least rest) → IsFollowed n p rest made
  unfolding hidden-the_row-Pat-0 hidden
  followed_made p least rest made n a b takes =
      same_trans (Matches takes made) (Then (Matches takes least) (Matches takes rest)) (Then (Times (Matches takes p) n) (Matches takes rest)) (b takes)
      (same_then (Matches takes least) (Matches takes rest) (Times (Matches takes p) n) (Matches takes rest) (a takes) (same_self (Matches takes rest)))

  -- that is a number within bounds, where the rest is one by which it may be more
  behind_made : (B C : ℕ → Type 0) (p rest made : Pat A L S) (n : ℕ) → ((k : ℕ) → B k → C (n + k)) → ((m : ℕ) → C m → (k : ℕ) × (m ≡ n + k) × B k)
      → IsWithinOf B p rest → IsFollowed n p rest made → IsWithinOf C p made
  behind_made B C p rest made n up down a b takes =
      let P = Matches takes p in
      same_trans (Matches takes made) (Then (Times P n) (Matches takes rest)) (Within C P) (b takes)
      (same_trans (Then (Times P n) (Matches takes rest)) (Then (Times P n) (Within B P)) (Within C P)
      (same_then (Times P n) (Matches takes rest) (Times P n) (Within B P) (same_self (Times P n)) (a takes)) (shifted P n B C up down))

  -- bounds with no greatest number
  pub at_least_made : (b : Bounds) (p rest made : Pat A L S) → b.max ≡ None → IsWithinOf (λ k. Unit {0}) p rest → IsFollowed b.min p rest made → IsWithinOf (IsWithin b) p made
  at_least_made b p rest made e = behind_made (λ k. Unit {0}) (IsWithin b) p rest made b.min
      (λ k t. record { least = omega arith; most = λ max is. let no : None ≡ Some max = sym e ∙ is in cc })
      (λ m h. (m - b.min, omega (arith, h.least), tt))

  -- bounds with one
  pub between_made : (b : Bounds) (max : ℕ) (p rest made : Pat A L S) → b.max ≡ Some max → b.min ≤ max → IsWithinOf (λ k. k ≤ max - b.min) p rest → IsFollowed b.min p rest made
      → IsWithinOf (IsWithin b) p made
  between_made b max p rest made e l = behind_made (λ k. k ≤ max - b.min) (IsWithin b) p rest made b.min
      (λ k t. record { least = omega arith; most = λ other is. let same : max ≡ other = is_some max other (sym e ∙ is) in omega arith })
      (λ m h. let most = h.most max e in (m - b.min, omega (arith, h.least), omega (arith, h.least)))

  -- bounds that allow no number
  pub none_between_made : (b : Bounds) (max : ℕ) (p : Pat A L S) → b.max ≡ Some max → max < b.min → IsWithinOf (IsWithin b) p Never
  none_between_made b max p e l takes w = (
    λ m. absurd m,
    λ m. let most = m.1.most max e in absurd (omega (arith, m.1.least)),
  )
