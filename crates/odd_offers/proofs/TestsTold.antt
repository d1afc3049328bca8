-- What tests tell, truth values that are made of others, and words that are found where they are in order.
use Rattle.std.proofs.Common.{◌≡◌, ◌<◌, ◌+◌, ◌&&◌, ◌||◌, ◌↔◌, Bool, IsTrue, true, false, not, ℕ, zero, suc, List, [], ◌∷◌, Result, Ok, Err, inl, inr, length, get_or, arith, refl, sym, ap, subst, ◌∙◌}
use Rattle.std.specs.List.{list_any}
use Rattle.std.proofs.Math.Bool.{beq}
use Rattle.std.proofs.lemmas.Bool.{and_from, and_right, cases_lt}
use Rattle.std.proofs.lemmas.Cmp.{nat_list_cmp_total}
use Rattle.std.proofs.lemmas.List.Folds.{list_any_at, list_any_none}
use Rattle.std.proofs.lemmas.List.Sorted.{searchable_from_sorted}
use Rattle.std.specs.Cmp.{eq_by_cmp_equiv}
use Rattle.std.specs.FinMap.{nat_cmp-IsAntisymmetric, slice_cmp-IsAntisymmetric}
use Rattle.std.specs.List.{IsAllAdjacentAnswer}
use Rattle.std.specs.List.Sorted.{IsBinarySearchResult, IsSearchInRange, IsSorted}
use Rattle.std.specs.Ordering.{as_partial_cmp, eq_by_cmp, is_eq, is_gt, is_le, is_lt, ordering_reverse, partial_le}
use Rattle.std.specs.Result.{is_ok}
use Rattle.std.specs.declared.cmp.Ordering.{Ordering}
use Rattle.std.specs.declared.cmp.Ordering.TheVariants.{Less, Equal, Greater}
use Rattle.odd_text.specs.Text.{text_cmp}
use Rattle.odd_offers.specs.Same.{bool_test, first as first_true, second as second_true, text_test}
use Rattle.odd_offers.specs.Telling.{in_order}
use Rattle.odd_offers.proofs.Lists.{told}

-- two truth values are told to be one just where the test passes them
pub bools_told : (a b : Bool) → beq a b ≡ bool_test.same a b
bools_told a b = told bool_test (beq a b) a b (is_one a b)
  where
    is_one : (a b : Bool) → IsTrue (beq a b) ↔ (a ≡ b)
    is_one true true = (λ h. refl, λ h. refl)
    is_one true false = (λ h. cc, λ h. cc)
    is_one false true = (λ h. cc, λ h. cc)
    is_one false false = (λ h. refl, λ h. refl)

-- where the first of two fails, one of them passes just where the second does
pub or_later : (a b c : Bool) → a ≡ false → c ≡ b → c ≡ (a || b)
or_later a b c e h = h ∙ ap (λ x. x || b) (sym e)

-- where the first of two passes, both pass just where the second does
pub and_later : (a b c : Bool) → a ≡ true → c ≡ b → c ≡ (a && b)
and_later a b c e h = h ∙ ap (λ x. x && b) (sym e)

-- where the first of two fails, not both pass
pub and_fails : (a b c : Bool) → a ≡ false → c ≡ false → c ≡ (a && b)
and_fails a b c e h = h ∙ ap (λ x. x && b) (sym e)

-- what is at most another is not above it
at_most_told : (o : Ordering) → is_le o ≡ not (is_gt o)
at_most_told Less = refl
at_most_told Equal = refl
at_most_told Greater = refl

-- and that other is not below it
not_below : (o : Ordering) → not (is_gt o) ≡ true → is_lt (ordering_reverse o) ≡ false
not_below Less h = refl
not_below Equal h = refl
not_below Greater h = cc

-- the word after one of the later words
module _ (x : List ℕ) (words : List (List ℕ)) (k : ℕ) (d : List ℕ) where
  next_later : get_or (x ∷ words) (suc k + 1) d ≡ get_or words (k + 1) d
  next_later = let one_on : suc k + 1 ≡ suc (k + 1) = omega arith in ap (λ n. get_or (x ∷ words) n d) one_on

  -- and whether one of them is at most that
  at_most_later : is_le (text_cmp (get_or words k d) (get_or words (k + 1) d))
      ≡ is_le (text_cmp (get_or (x ∷ words) (suc k) d) (get_or (x ∷ words) (suc k + 1) d))
  at_most_later = ap (λ next. is_le (text_cmp (get_or words k d) next)) (sym next_later)

-- words of which each is at most the next are in order
all_rise : (words : List (List ℕ)) → ((k : ℕ) (d : List ℕ) → k + 1 < length words → is_le (text_cmp (get_or words k d) (get_or words (k + 1) d)) ≡ true) → in_order words ≡ true
all_rise [] h = refl
all_rise (x ∷ []) h = refl
all_rise (x ∷ y ∷ words) h =
    and_from (not (is_gt (text_cmp x y))) (in_order (y ∷ words)) (sym (at_most_told (text_cmp x y)) ∙ h 0 [] (omega arith))
    (all_rise (y ∷ words) (λ k d lt. at_most_later x (y ∷ words) k d ∙ h (suc k) d (omega arith)))

-- and where one is not they are not
one_falls : (words : List (List ℕ)) (k : ℕ) → k + 1 < length words → ((d : List ℕ) → is_le (text_cmp (get_or words k d) (get_or words (k + 1) d)) ≡ false) → in_order words ≡ false
one_falls [] k lt h = let no : ⊥ = omega arith in absurd no
one_falls (x ∷ []) k lt h = let no : ⊥ = omega arith in absurd no
one_falls (x ∷ y ∷ words) zero lt h = ap (λ b. b && in_order (y ∷ words)) (sym (at_most_told (text_cmp x y)) ∙ h [])
one_falls (x ∷ y ∷ words) (suc k) lt h =
    and_right (not (is_gt (text_cmp x y))) (in_order (y ∷ words)) (one_falls (y ∷ words) k (omega arith) (λ d. at_most_later x (y ∷ words) k d ∙ h d))

-- which is what neighbours tell
pub order_told : (words : List (List ℕ)) (r : Bool) → IsAllAdjacentAnswer (λ x y b. partial_le (as_partial_cmp text_cmp) x y ≡ b) words r → r ≡ in_order words
order_told words true h = sym (all_rise words h)
order_told words false h = sym (one_falls words h.0 h.1 h.2)

-- words that are in order are sorted
pub in_order_sorted : (words : List (List ℕ)) → in_order words ≡ true → IsSorted text_cmp words
in_order_sorted [] h k d low lt = let no : ⊥ = omega arith in absurd no
in_order_sorted (x ∷ []) h k d low lt = let no : ⊥ = omega arith in absurd no
in_order_sorted (x ∷ y ∷ words) h zero d low lt =
    ap is_lt (nat_list_cmp_total.antisymm y x) ∙ not_below (text_cmp x y) (first_true (not (is_gt (text_cmp x y))) (in_order (y ∷ words)) h)
in_order_sorted (x ∷ y ∷ words) h (suc k) d low lt =
    ap (λ next. is_lt (text_cmp next (get_or (y ∷ words) k d))) (next_later x (y ∷ words) k d)
    ∙ in_order_sorted (y ∷ words) (second_true (not (is_gt (text_cmp x y))) (in_order (y ∷ words)) h) k d (omega arith) (omega arith)

-- how words compare tells whether they are one
compared : (word other : List ℕ) (r : Ordering) → text_cmp other word ≡ r → text_test.same word other ≡ is_eq (ordering_reverse r)
compared word other r e = sym (told text_test (is_eq (ordering_reverse r)) word other (is_one r e))
  where
    apart : is_eq (text_cmp other word) ≡ false → word ≡ other → ⊥
    apart differs same =
        let one : eq_by_cmp text_cmp other word ≡ true = subst (λ w. eq_by_cmp text_cmp other w ≡ true) (sym same) ((eq_by_cmp_equiv nat_list_cmp_total).refl other) in
        let both : true ≡ false = sym one ∙ differs in cc

    is_one : (r : Ordering) → text_cmp other word ≡ r → IsTrue (is_eq (ordering_reverse r)) ↔ (word ≡ other)
    is_one Less e = (λ h. cc, λ same. absurd (apart (ap is_eq e) same))
    is_one Equal e = (λ h. sym (slice_cmp-IsAntisymmetric nat_cmp-IsAntisymmetric other word e), λ same. refl)
    is_one Greater e = (λ h. cc, λ same. absurd (apart (ap is_eq e) same))

-- a search among words that are in order finds what is there
pub search_told : (words : List (List ℕ)) (word : List ℕ) → in_order words ≡ true → (r : Result ℕ ℕ) → IsSearchInRange r (length words)
    → IsBinarySearchResult (λ y. text_cmp y word) words r → is_ok r ≡ list_any (text_test.same word) words
search_told words word up (Ok k) lt at = sym (list_any_at (text_test.same word) words k [] lt (compared word (get_or words k []) Equal (at [])))
search_told words word up (Err i) le at =
    let ends = at (searchable_from_sorted nat_list_cmp_total (λ w. w) words word (in_order_sorted words up)) in
    sym (list_any_none (text_test.same word) words (λ k d lt. elim (cases_lt k i) [
      | inl low ↦ compared word (get_or words k d) Less (ends.0 k d (omega arith) low)
      | inr high ↦ compared word (get_or words k d) Greater (ends.1 k d high lt)
    ]))
