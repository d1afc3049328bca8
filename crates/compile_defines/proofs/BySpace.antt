-- Names sorted by their namespaces, and items in the order of their ranks.
use Rattle.std.proofs.Common.{◌≡◌, ◌≤◌, ◌+◌, ℕ, zero, suc, Bool, true, false, nat_lt, cond, List, [], ◌∷◌, get_or, length, take, drop, filter, inl, inr, refl, ap, subst, ◌∙◌, arith, not, ◌&&◌, sym}
use Rattle.std.proofs.lemmas.Bool.{cases_lt}
use Rattle.std.proofs.lemmas.Cmp.{nat_list_cmp_total}
use Rattle.std.proofs.lemmas.List.Sorted.{IsPartitionedBy-ltb, ranks_by}
use Rattle.std.specs.Cmp.{IsStrictWeakOrder}
use Rattle.std.specs.Cmp.Lexicographic.{texts_ties}
use Rattle.std.specs.List.Sorted.{IsNonDecreasingBy, IsPartitionedBy, IsPartitionPoint, IsStableBy, ties}
use Rattle.std.specs.Ordering.{is_eq, is_le, is_lt, ordering_index, ordering_reverse}
use Rattle.std.specs.declared.cmp.Ordering.{Ordering}
use Rattle.std.specs.declared.cmp.Ordering.TheVariants.{Less, Equal, Greater}
use Rattle.odd_text.specs.Text.{text_cmp}
use Rattle.odd_text.specs.declared.name.Name.{Name}
use Rattle.odd_text.specs.Same.{is_same}

-- the tests of an order, by its number
less_is : (r : Ordering) → nat_lt (ordering_index r) 1 ≡ is_lt r
less_is Less = refl
less_is Equal = refl
less_is Greater = refl

-- the same of the other test
at_most_is : (r : Ordering) → nat_lt (ordering_index r) 2 ≡ is_le r
at_most_is Less = refl
at_most_is Equal = refl
at_most_is Greater = refl

-- what is less is at most
less_at_most : (r : Ordering) → is_lt r ≡ true → is_le r ≡ false → ⊥
less_at_most Less e h = cc
less_at_most Equal e h = cc
less_at_most Greater e h = cc

-- what is at most and not less is equal
equal_is : (r : Ordering) (less at_most : Bool) → is_lt r ≡ less → is_le r ≡ at_most → is_eq r ≡ cond less false at_most
equal_is Less less at_most e h = ap (λ t. cond t false at_most) e
equal_is Equal less at_most e h = h ∙ ap (λ t. cond t false at_most) e
equal_is Greater less at_most e h = h ∙ ap (λ t. cond t false at_most) e

module _ {A : Type 0} (rank : A → Ordering) where
  abbrev Rise : List A → Type 0
  Rise = IsNonDecreasingBy (λ x. ordering_index (rank x))

  -- the place where what passes a test ends
  abbrev IsEnd : (A → Bool) → List A → ℕ → Type 0
  IsEnd test xs i = IsPartitionPoint (λ x. test x ≡ true) (λ x. test x ≡ false) xs i

  -- the lesser items come before the others
  pub less_parted : (xs : List A) → Rise xs → IsPartitionedBy (λ x. is_lt (rank x)) xs
  less_parted xs up = subst (λ test. IsPartitionedBy test xs) (λ i x. less_is (rank x) i) (IsPartitionedBy-ltb (λ x. ordering_index (rank x)) xs 1 up)

  -- and so do the lesser and the equal ones
  pub at_most_parted : (xs : List A) → Rise xs → IsPartitionedBy (λ x. is_le (rank x)) xs
  at_most_parted xs up = subst (λ test. IsPartitionedBy test xs) (λ i x. at_most_is (rank x) i) (IsPartitionedBy-ltb (λ x. ordering_index (rank x)) xs 2 up)

  -- in the rest of a list the end is one place earlier
  end_later : (test : A → Bool) (x : A) (xs : List A) (i : ℕ) → IsEnd test (x ∷ xs) (suc i) → IsEnd test xs i
  end_later test x xs i p = (λ k d low high. p.0 (suc k) d (omega arith) (omega arith), λ k d low high. p.1 (suc k) d (omega arith) (omega arith))

  -- the lesser items end no later than the equal ones
  pub ends_rise : (xs : List A) (i j : ℕ) → i ≤ length xs → IsEnd (λ x. is_lt (rank x)) xs i → IsEnd (λ x. is_le (rank x)) xs j → i ≤ j
  ends_rise [] i j le p q = omega arith
  ends_rise (x ∷ xs) i j le p q = elim (cases_lt j i) [
    | inl low ↦ absurd (less_at_most (rank (get_or (x ∷ xs) j x)) (p.0 j x (omega arith) low) (q.1 j x (omega arith) (omega arith)))
    | inr high ↦ high
  ]

  -- the first item is kept if it is equal
  first_kept : (x : A) (xs : List A) (b : Bool) → is_eq (rank x) ≡ b → filter (λ y. is_eq (rank y)) (x ∷ xs) ≡ cond b (x ∷ filter (λ y. is_eq (rank y)) xs) (filter (λ y. is_eq (rank y)) xs)
  first_kept x xs b e = ap (λ t. cond t (x ∷ filter (λ y. is_eq (rank y)) xs) (filter (λ y. is_eq (rank y)) xs)) e

  -- between the two ends stand the equal items
  pub equal_between : (xs : List A) (i n j : ℕ) → i + n ≡ j → j ≤ length xs → IsEnd (λ x. is_lt (rank x)) xs i → IsEnd (λ x. is_le (rank x)) xs j
      → filter (λ x. is_eq (rank x)) xs ≡ take n (drop i xs)
  equal_between [] zero zero j is le p q = refl
  equal_between [] zero (suc n) j is le p q = absurd (omega arith)
  equal_between [] (suc i) n j is le p q = absurd (omega arith)
  equal_between (x ∷ xs) zero zero zero is le p q =
      first_kept x xs false (equal_is (rank x) false false (p.1 zero x (omega arith) (omega arith)) (q.1 zero x (omega arith) (omega arith)))
      ∙ equal_between xs zero zero zero refl (omega arith) (λ k d low high. absurd (omega arith), λ k d low high. p.1 (suc k) d (omega arith) (omega arith))
      (λ k d low high. absurd (omega arith), λ k d low high. q.1 (suc k) d (omega arith) (omega arith))
  equal_between (x ∷ xs) zero zero (suc j) is le p q = absurd (omega arith)
  equal_between (x ∷ xs) zero (suc n) zero is le p q = absurd (omega arith)
  equal_between (x ∷ xs) zero (suc n) (suc j) is le p q =
      first_kept x xs true (equal_is (rank x) false true (p.1 zero x (omega arith) (omega arith)) (q.0 zero x (omega arith) (omega arith)))
      ∙ ap (λ ys. x ∷ ys) (equal_between xs zero n j (omega arith) (omega arith) (λ k d low high. absurd (omega arith), λ k d low high. p.1 (suc k) d (omega arith) (omega arith))
      (end_later (λ y. is_le (rank y)) x xs j q))
  equal_between (x ∷ xs) (suc i) n zero is le p q = absurd (omega arith)
  equal_between (x ∷ xs) (suc i) n (suc j) is le p q =
      first_kept x xs false (equal_is (rank x) true true (p.0 zero x (omega arith) (omega arith)) (q.0 zero x (omega arith) (omega arith)))
      ∙ equal_between xs i n j (omega arith) (omega arith) (end_later (λ y. is_lt (rank y)) x xs i p) (end_later (λ y. is_le (rank y)) x xs j q)

-- the first name's namespace is below the other's
abbrev pub is_below : Name → Name → Bool
is_below one other = is_lt (text_cmp one.ns other.ns)

-- which orders names
pub below_ranks : IsStrictWeakOrder is_below
below_ranks = ranks_by nat_list_cmp_total (λ (n : Name). n.ns)

-- neither is below the other where they compare as equal
neither : (r s : Ordering) → r ≡ ordering_reverse s → (not (is_lt r) && not (is_lt s)) ≡ is_eq s
neither r Less e = rw e refl
neither r Equal e = rw e refl
neither r Greater e = rw e refl

-- names tie where their namespaces are the same
tied : (one other : Name) → ties is_below one other ≡ is_same other.ns one.ns
tied one other = neither (text_cmp one.ns other.ns) (text_cmp other.ns one.ns) (nat_list_cmp_total.antisymm one.ns other.ns) ∙ sym (texts_ties other.ns one.ns)

-- a stable sort leaves the names of a namespace in their order
pub same_names : (some others : List Name) → IsStableBy is_below some others → (space : List ℕ) → filter (λ n. is_same n.ns space) others ≡ filter (λ n. is_same n.ns space) some
same_names some others stable space =
    let of_space : Name = record { ns = space; local = [] } in
    ap (λ t. filter t others) (λ i (n : Name). sym (tied of_space n) i) ∙ stable of_space ∙ ap (λ t. filter t some) (λ i (n : Name). tied of_space n i)
