-- Marks on words, which put words into a set and take words out of it.
use Rattle.std.specs.Prelude.{◌≡◌, ◌≢◌, ◌⊎◌, Bool, true, false, ℕ, List, [], ◌∷◌, Option, Some, None, refl}
use Rattle.std.proofs.Common.{ap, ◌∙◌}
use Rattle.std.proofs.lemmas.Cmp.{nat_list_cmp_total}
use Rattle.std.specs.FinMap.{slice_cmp-IsAntisymmetric, nat_cmp-IsAntisymmetric}
use Rattle.std.specs.FinMap.{find}
use Rattle.odd_text.specs.Text.{text_cmp}
use Rattle.odd_text.specs.Standing.{StandsIn}
use Rattle.odd_overlay.specs.Overlaid.{joined_maps, laid_maps, maps_one_by_one, maps_regrouped}
use Rattle.odd_overlay.specs.Tabled.{keys_of}

-- of two marks the later one
abbrev pub mark_joined : Bool → Bool → Bool
mark_joined earlier later = later

-- true puts the word in, and false takes it out
abbrev pub mark_laid : Bool → Option (Unit {0}) → Option (Unit {0})
mark_laid true there = Some tt
mark_laid false there = None

pub mark_one_by_one : (a b : Bool) (x : Option (Unit {0})) → mark_laid b (mark_laid a x) ≡ mark_laid (mark_joined a b) x
mark_one_by_one a true x = refl
mark_one_by_one a false x = refl

-- words as the keys of a map
abbrev pub word_entries : List (List ℕ) → List (List ℕ × Unit {0})
word_entries [] = []
word_entries (word ∷ words) = (word, tt) ∷ word_entries words

-- the words with some put in and some taken out, in rising order, each once
abbrev pub words_laid : List (List ℕ × Bool) → List (List ℕ) → List (List ℕ)
words_laid marks words = keys_of (laid_maps text_cmp mark_laid marks (word_entries words))

-- so a word is one of them exactly where it was one and is not taken out, or is put in
abbrev pub IsWordAfter : List (List ℕ × Bool) → List (List ℕ) → List ℕ → Type 0
IsWordAfter marks words word = (StandsIn words word × (find text_cmp word marks ≢ Some false)) ⊎ (find text_cmp word marks ≡ Some true)

-- two maps of marks as one, with the later mark at a word of both
abbrev pub marks_joined : List (List ℕ × Bool) → List (List ℕ × Bool) → List (List ℕ × Bool)
marks_joined earlier later = joined_maps text_cmp mark_joined earlier later

entries_again : (es : List (List ℕ × Unit {0})) → word_entries (keys_of es) ≡ es
entries_again [] = refl
entries_again (e ∷ es) = ap (λ fs. e ∷ fs) (entries_again es)

pub words_one_by_one : (m n : List (List ℕ × Bool)) (words : List (List ℕ)) → words_laid n (words_laid m words) ≡ words_laid (marks_joined m n) words
words_one_by_one m n words =
    ap (λ es. keys_of (laid_maps text_cmp mark_laid n es)) (entries_again (laid_maps text_cmp mark_laid m (word_entries words)))
    ∙ ap keys_of (maps_one_by_one text_cmp nat_list_cmp_total (slice_cmp-IsAntisymmetric nat_cmp-IsAntisymmetric) mark_joined mark_laid mark_one_by_one m n (word_entries words))

pub marks_regrouped : (a b c : List (List ℕ × Bool)) → marks_joined (marks_joined a b) c ≡ marks_joined a (marks_joined b c)
marks_regrouped a b c = maps_regrouped text_cmp nat_list_cmp_total (slice_cmp-IsAntisymmetric nat_cmp-IsAntisymmetric) mark_joined (λ x y z. refl) a b c
