-- Entries that are put one after the other into a map, in the order of their keys, and the words of a map.
use Rattle.std.proofs.Common.{◌≡◌, ℕ, true, false, cond, List, [], ◌∷◌, ◌++◌, map, fold, Some, None, refl, sym, ap, subst, ◌∙◌, append_assoc, append-nil}
use Rattle.std.specs.Prelude.{IsTrue}
use Rattle.std.proofs.lemmas.Bool.{and_from}
use Rattle.std.proofs.lemmas.Cmp.{nat_list_cmp_total}
use Rattle.std.specs.FinMap.{find, is_sorted, nat_cmp-IsAntisymmetric, put, slice_cmp-IsAntisymmetric}
use Rattle.std.specs.FinMap.Entries.{below_all}
use Rattle.std.specs.Ordering.{eq_by_cmp, is_lt}
use Rattle.odd_text.proofs.Entries.{as_T}
use Rattle.odd_text.specs.Text.{text_cmp}
use Rattle.odd_text.specs.Standing.{StandsIn}
use Rattle.odd_text.proofs.InList.{stands_first, stands_later}
use Rattle.odd_text.specs.Sorted.{AreRising}
use Rattle.odd_text.proofs.SetOf.{first_below, rest_rising}
use Rattle.odd_overlay.proofs.Ordered.{put_last}
use Rattle.odd_overlay.specs.Marks.{mark_laid, words_laid}
use Rattle.odd_overlay.specs.Overlaid.{is_zipped, laid_at}
use Rattle.odd_overlay.specs.Tabled.{keys_of}

-- each step puts one of the entries
abbrev pub AllPut : {Y V : Type 0} → (List (List ℕ × V) → Y → List (List ℕ × V)) → List Y → List (List ℕ × V) → Type 0
AllPut step [] [] = Unit {0}
AllPut step (y ∷ ys) (e ∷ es) = (((made : _) → step made y ≡ put text_cmp e.0 e.1 made)) × AllPut step ys es
AllPut step ys es = ⊥

-- then all of them are there in the end
pub puts_all : {Y V : Type 0} (step : List (List ℕ × V) → Y → List (List ℕ × V)) (ys : List Y) (es before : List (List ℕ × V)) → AllPut step ys es → IsTrue (is_sorted text_cmp (before ++ es))
    → fold step before ys ≡ before ++ es
puts_all step [] [] before h sorted = sym (append-nil before)
puts_all step [] (e ∷ es) before h sorted = absurd h
puts_all step (y ∷ ys) [] before h sorted = absurd h
puts_all step (y ∷ ys) (e ∷ es) before h sorted =
    let one : step before y ≡ before ++ e ∷ [] = h.0 before ∙ put_last text_cmp nat_list_cmp_total e.0 e.1 before es (as_T _ sorted) in
    ap (λ made. fold step made ys) one ∙ puts_all step ys es (before ++ e ∷ []) h.1 (subst (λ xs. IsTrue (is_sorted text_cmp xs)) (sym (append_assoc before (e ∷ []) es)) sorted)
    ∙ append_assoc before (e ∷ []) es

-- rising words with one value
abbrev pub all_with : {V : Type 0} → V → List (List ℕ) → List (List ℕ × V)
all_with v = map (λ word. (word, v))

module _ {V : Type 0} (v : V) where
  below_with : (word : List ℕ) (words : List (List ℕ)) → ((other : List ℕ) → StandsIn words other → is_lt (text_cmp word other) ≡ true) → below_all text_cmp word (all_with v words) ≡ true
  below_with word [] h = refl
  below_with word (w ∷ ws) h = and_from _ _ (h w (stands_first w ws)) (below_with word ws (λ x s. h x (stands_later w x ws s)))

  pub with_sorted : (words : List (List ℕ)) → AreRising text_cmp words → IsTrue (is_sorted text_cmp (all_with v words))
  with_sorted [] r = refl
  with_sorted (w ∷ ws) r =
      and_from _ _ (below_with w ws (λ x s. ap is_lt (first_below text_cmp nat_list_cmp_total w ws r x s))) (with_sorted ws (rest_rising text_cmp nat_list_cmp_total w ws r))

  pub with_keys : (words : List (List ℕ)) → keys_of (all_with v words) ≡ words
  with_keys [] = refl
  with_keys (w ∷ ws) = ap (λ xs. w ∷ xs) (with_keys ws)

-- words that are put in where there was none
found_with : (q : List ℕ) (words : List (List ℕ)) → find text_cmp q (all_with tt words) ≡ laid_at mark_laid (find text_cmp q (all_with true words)) None
found_with q [] = refl
found_with q (w ∷ ws) =
    elim (eq_by_cmp text_cmp q w) as (λ b. cond b (Some tt) (find text_cmp q (all_with tt ws)) ≡ laid_at mark_laid (cond b (Some true) (find text_cmp q (all_with true ws))) None) [
      | true ↦ refl
      | false ↦ found_with q ws
    ]

pub words_made : (words : List (List ℕ)) → AreRising text_cmp words → words_laid (all_with true words) [] ≡ words
words_made words r =
    sym (ap keys_of (is_zipped text_cmp nat_list_cmp_total (slice_cmp-IsAntisymmetric nat_cmp-IsAntisymmetric) (laid_at mark_laid) refl (all_with true words) [] (all_with tt words) (with_sorted tt words r) (λ q. found_with q words)))
    ∙ with_keys tt words
