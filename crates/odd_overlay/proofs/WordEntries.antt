-- Words as the keys of a map, one after the other.
use Rattle.std.proofs.Common.{◌≡◌, ℕ, Bool, true, false, cond, List, [], ◌∷◌, ◌++◌, Some, refl, ap, ◌∙◌}
use Rattle.std.proofs.lemmas.Cmp.{nat_list_cmp_total}
use Rattle.std.specs.FinMap.{find, slice_cmp-IsAntisymmetric, nat_cmp-IsAntisymmetric}
use Rattle.std.specs.Ordering.{eq_by_cmp}
use Rattle.odd_text.specs.Text.{text_cmp}
use Rattle.odd_overlay.specs.Marks.{mark_laid, word_entries, words_laid}
use Rattle.odd_overlay.specs.Overlaid.{laid_at, laid_maps, same_zipped}
use Rattle.odd_overlay.specs.Tabled.{keys_of}

swapped : {A : Type 0} (a b : Bool) (x z : A) → cond a x (cond b x z) ≡ cond b x (cond a x z)
swapped true true x z = refl
swapped true false x z = refl
swapped false b x z = refl

-- one word more
pub word_pushed : (words : List (List ℕ)) (word q : List ℕ) → find text_cmp q (word_entries (words ++ word ∷ [])) ≡ cond (eq_by_cmp text_cmp q word) (Some tt) (find text_cmp q (word_entries words))
word_pushed [] word q = refl
word_pushed (w ∷ words) word q =
    ap (cond (eq_by_cmp text_cmp q w) (Some tt)) (word_pushed words word q)
    ∙ swapped (eq_by_cmp text_cmp q w) (eq_by_cmp text_cmp q word) (Some tt) (find text_cmp q (word_entries words))

-- marks are laid over a map of the words as over the words
pub same_words : (marks : List (List ℕ × Bool)) (set : List (List ℕ × Unit {0})) (words : List (List ℕ)) → ((q : List ℕ) → find text_cmp q set ≡ find text_cmp q (word_entries words))
    → keys_of (laid_maps text_cmp mark_laid marks set) ≡ words_laid marks words
same_words marks set words is =
    ap keys_of (same_zipped text_cmp nat_list_cmp_total (slice_cmp-IsAntisymmetric nat_cmp-IsAntisymmetric) (laid_at mark_laid) (laid_at mark_laid) refl refl marks set marks (word_entries words) (λ q.
    ap (laid_at mark_laid (find text_cmp q marks)) (is q)))
