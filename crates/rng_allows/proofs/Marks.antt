-- Marks of words, one after another: the words tell them.
use Rattle.std.proofs.Common.{◌≡◌, ◌↔◌, ◌∙◌, ◌+◌, ◌<◌, ◌≤◌, ℕ, Bool, true, false, List, [], ◌∷◌, ◌++◌, IsTrue, refl, sym, ap, subst, map, take, length, get_or, append_assoc, append-nil}
use Rattle.std.proofs.lemmas.Grind.{take_at_read}
use Rattle.std.proofs.lemmas.List.{take_all}
use Rattle.std.specs.Str.{chars}
use Rattle.odd_patterns.specs.Children.{is_marked}
use Rattle.odd_patterns.specs.Words.{Matches}
use Rattle.odd_pool.specs.Pattern.{Fits, Leaves, Pattern}
use Rattle.rng_allows.specs.Allowed.{AllowedBy, AreEach, WordPattern}
use Rattle.rng_allows.specs.Marked.{AreWordsAllowed, IsMarked}
use Rattle.rng_allows.specs.declared.value_pattern.ValuePattern.{ValuePattern}

-- what stands at a place comes after what stands before it
ends : {X : Type 0} (items : List X) (i : ℕ) (item : X) → i < length items → item ≡ get_or items i item → take (i + 1) items ≡ take i items ++ item ∷ []
ends items i item lt is = (take_at_read items i item lt).1 ∙ ap (λ x. take i items ++ x ∷ []) (sym is)

-- a list with one leaf more has one mark more
one_more_mark : (leaves : List ValuePattern) (leaf : ValuePattern) (word : List ℕ) (marks : List Bool) (mark : Bool) → IsMarked leaves word marks → (IsTrue mark ↔ AllowedBy leaf word)
    → IsMarked (leaves ++ leaf ∷ []) word (marks ++ mark ∷ [])
one_more_mark [] leaf word [] mark h k = (k, tt)
one_more_mark [] leaf word (b ∷ bs) mark h k = absurd h
one_more_mark (x ∷ xs) leaf word [] mark h k = absurd h
one_more_mark (x ∷ xs) leaf word (b ∷ bs) mark h k = (h.0, one_more_mark xs leaf word bs mark h.1 k)

-- marks that say the same are the same
same_mark : {P : Type 0} (a b : Bool) → IsTrue a ↔ P → IsTrue b ↔ P → a ≡ b
same_mark true true h k = refl
same_mark true false h k = let t = k.1 (h.0 refl) in cc
same_mark false true h k = let t = h.1 (k.0 refl) in cc
same_mark false false h k = refl

-- so a word has its marks only
same_marks : (leaves : List ValuePattern) (word : List ℕ) (marks others : List Bool) → IsMarked leaves word marks → IsMarked leaves word others → marks ≡ others
same_marks [] word [] [] h k = refl
same_marks [] word [] (c ∷ cs) h k = absurd k
same_marks [] word (b ∷ bs) others h k = absurd h
same_marks (x ∷ xs) word [] others h k = absurd h
same_marks (x ∷ xs) word (b ∷ bs) [] h k = absurd k
same_marks (x ∷ xs) word (b ∷ bs) (c ∷ cs) h k = (λ i. same_mark b c h.0 k.0 i ∷ same_marks xs word bs cs h.1 k.1 i)

-- a leaf takes the marks where that of its number is on
abbrev pub takes : ℕ → List Bool → Bool
takes leaf symbol = is_marked symbol leaf

module _ (leaves : List ValuePattern) where
  abbrev pub AreMarks : List (List ℕ) → List (List Bool) → Type 0
  AreMarks = AreEach (IsMarked leaves)

  -- one word more
  one_more_word : (words : List (List ℕ)) (word : List ℕ) (marks : List (List Bool)) (of_word : List Bool) → AreMarks words marks → IsMarked leaves word of_word
      → AreMarks (words ++ word ∷ []) (marks ++ of_word ∷ [])
  one_more_word [] word [] of_word h k = (k, tt)
  one_more_word [] word (b ∷ bs) of_word h k = absurd h
  one_more_word (w ∷ ws) word [] of_word h k = absurd h
  one_more_word (w ∷ ws) word (b ∷ bs) of_word h k = (h.0, one_more_word ws word bs of_word h.1 k)

  -- words have their marks only
  same_words : (words : List (List ℕ)) (marks others : List (List Bool)) → AreMarks words marks → AreMarks words others → marks ≡ others
  same_words [] [] [] h k = refl
  same_words [] [] (c ∷ cs) h k = absurd k
  same_words [] (b ∷ bs) others h k = absurd h
  same_words (w ∷ ws) [] others h k = absurd h
  same_words (w ∷ ws) (b ∷ bs) [] h k = absurd k
  same_words (w ∷ ws) (b ∷ bs) (c ∷ cs) h k = (λ i. same_marks leaves w b c h.0 k.0 i ∷ same_words ws bs cs h.1 k.1 i)

  -- so words are allowed where the pattern matches their marks
  words_allowed : (pat : WordPattern) (words : List (List ℕ)) (marks : List (List Bool)) → AreMarks words marks → Matches takes pat marks ↔ AreWordsAllowed leaves pat words
  words_allowed pat words marks each = (λ m. (marks, each, m), λ h. subst (Matches takes pat) (same_words words h.0 marks h.1 each) h.2)

  -- the words up to a place, and what stands there, by their characters
  words_end : (items : List (List ℕ)) (i : ℕ) (word : List ℕ) → i < length items → word ≡ get_or items i word
      → map chars (take (i + 1) items) ≡ map chars (take i items) ++ chars word ∷ []
  words_end items i word lt is = ap (map chars) (ends items i word lt is) ∙ map_last (take i items)
    where
      map_last : (xs : List (List ℕ)) → map chars (xs ++ word ∷ []) ≡ map chars xs ++ chars word ∷ []
      map_last [] = refl
      map_last (x ∷ xs) = ap (λ ys. chars x ∷ ys) (map_last xs)

  -- marks of the words so far, and of one more
  pub next_word : (items : List (List ℕ)) (i : ℕ) (word : List ℕ) (marks : List (List Bool)) (of_word : List Bool) → i < length items → word ≡ get_or items i word
      → AreMarks (map chars (take i items)) marks → IsMarked leaves (chars word) of_word → AreMarks (map chars (take (i + 1) items)) (marks ++ of_word ∷ [])
  next_word items i word marks of_word lt is h k =
      subst (λ words. AreMarks words (marks ++ of_word ∷ [])) (sym (words_end items i word lt is)) (one_more_word (map chars (take i items)) (chars word) marks of_word h k)

  -- and of all words
  pub all_words : (items words : List (List ℕ)) (i : ℕ) (marks : List (List Bool)) → length items ≤ i → map chars items ≡ words
      → AreMarks (map chars (take i items)) marks → AreMarks words marks
  all_words items words i marks le is h = subst (λ ws. AreMarks ws marks) (ap (map chars) (take_all i items le) ∙ is) h

-- what a pattern leaves after some marks, and after one more
pub next_left : (pat : WordPattern) (old new : Pattern ℕ) (seen : List (List Bool)) (of_word : List Bool)
    → ((v : List (List Bool)) → Fits takes old v ↔ Matches takes pat (seen ++ v)) → Leaves takes old of_word new → (v : List (List Bool)) → Fits takes new v ↔ Matches takes pat ((seen ++ of_word ∷ []) ++ v)
next_left pat old new seen of_word h one v =
    let all = subst (λ w. Fits takes old (of_word ∷ v) ↔ Matches takes pat w) (sym (append_assoc seen (of_word ∷ []) v)) (h (of_word ∷ v)) in
    let step = one v in
    (λ m. all.0 (step.0 m), λ m. step.1 (all.1 m))

-- and after all of them
pub last_left : (leaves : List ValuePattern) (pat : WordPattern) (words : List (List ℕ)) (seen : List (List Bool)) (left : Pattern ℕ) (said : Bool) → AreMarks leaves words seen
    → ((v : List (List Bool)) → Fits takes left v ↔ Matches takes pat (seen ++ v)) → (IsTrue said ↔ Fits takes left []) → IsTrue said ↔ AreWordsAllowed leaves pat words
last_left leaves pat words seen left said each h told =
    let all = subst (λ w. Fits takes left [] ↔ Matches takes pat w) (append-nil seen) (h []) in
    let allowed = words_allowed leaves pat words seen each in
    (λ t. allowed.0 (all.0 (told.0 t)), λ m. told.1 (all.1 (allowed.1 m)))

-- the leaves up to a place, and what stands there
pub next_mark : (items : List ValuePattern) (i : ℕ) (leaf : ValuePattern) (word : List ℕ) (marks new : List Bool) (mark : Bool) → i < length items → leaf ≡ get_or items i leaf
    → new ≡ marks ++ mark ∷ [] → IsMarked (take i items) word marks → (IsTrue mark ↔ AllowedBy leaf word) → IsMarked (take (i + 1) items) word new
next_mark items i leaf word marks new mark lt is made h k =
    let grown = one_more_mark (take i items) leaf word marks mark h k in
    subst (λ bs. IsMarked (take (i + 1) items) word bs) (sym made) (subst (λ xs. IsMarked xs word (marks ++ mark ∷ [])) (sym (ends items i leaf lt is)) grown)
