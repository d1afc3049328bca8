-- White space collapsed, character by character.
use Rattle.std.proofs.Common.{◌≡◌, ℕ, ◌==◌, ◌+◌, ◌≤◌, suc, Bool, true, false, not, ◌⊎◌, ⊎_elim, if◌then◌else◌, List, [], ◌∷◌, ◌++◌, refl, sym, ap, ◌∙◌, arith, append_assoc, append-nil, length, length-append, IsUtf8, encode_utf8, nat_lt, zero-add, add-zero, subst}
use Rattle.std.proofs.lemmas.Bool.{lt-ltb}
use Rattle.std.proofs.lemmas.Bool.Decides.{nat_tests}
use Rattle.std.proofs.lemmas.List.{nil_from_length, length-map}
use Rattle.std.proofs.lemmas.Str.{encodes-chars, length-le-encodes, chars_past_char, IsUtf8-past_char, len_utf8_bounds, length-encode, chars-nil}
use Rattle.std.specs.Str.{chars, encode_utf8_all}
use Rattle.odd_tokens.specs.Characters.{is_space}
use Rattle.rng_types.proofs.Spaced.{all_words, words_after}
use Rattle.rng_types.specs.Words.{ended}
use Rattle.rng_types.specs.declared.data_type.DataType.{DataType}
use Rattle.rng_types.specs.declared.data_type.DataType.TheVariants as kind
use Rattle.rng_values.specs.Treated.{collapsed, spaced, treated}

-- what is to come: whether a character has come, and whether a space comes before the next
abbrev pub collapsing : (begun gap : Bool) → List ℕ → List ℕ
collapsing begun gap [] = []
collapsing begun gap (c ∷ cs) = if is_space c then collapsing begun begun cs else (if gap then 0x20 ∷ c ∷ collapsing true false cs else c ∷ collapsing true false cs)

-- words after a word that has come
abbrev after_word : List (List ℕ) → List ℕ
after_word [] = []
after_word (word ∷ words) = 0x20 ∷ spaced (word ∷ words)

-- the first word stands before those after it
after_first : (word : List ℕ) (words : List (List ℕ)) → spaced (word ∷ words) ≡ word ++ after_word words
after_first word [] = sym (append-nil word)
after_first word (next ∷ words) = refl

-- where a word has begun, there is one
some_after : (begun : List ℕ) (b : ℕ) (cs : List ℕ) → after_word (words_after (b ∷ begun) cs) ≡ 0x20 ∷ spaced (words_after (b ∷ begun) cs)
some_after begun b [] = refl
some_after begun b (c ∷ cs) =
    elim (is_space c)
    as (λ s. after_word (if s then ended (b ∷ begun) (words_after [] cs) else words_after (b ∷ (begun ++ c ∷ [])) cs) ≡ 0x20 ∷ spaced (if s then ended (b ∷ begun) (words_after [] cs) else words_after (b ∷ (begun ++ c ∷ [])) cs)) [
      | true ↦ refl
      | false ↦ some_after (begun ++ c ∷ []) b cs
    ]

-- what comes after a word and white space, and in a word
abbrev ComesRight : List ℕ → Type 0
ComesRight cs = (collapsing true true cs ≡ after_word (words_after [] cs)) × ((begun : List ℕ) (b : ℕ) → (b ∷ begun) ++ collapsing true false cs ≡ spaced (words_after (b ∷ begun) cs))

-- which is what comes
comes_right : (cs : List ℕ) → ComesRight cs
comes_right [] = (refl, λ begun b. append-nil (b ∷ begun))
comes_right (c ∷ cs) =
    let later = comes_right cs in (
      elim (is_space c) as (λ s. (if s then collapsing true true cs else 0x20 ∷ c ∷ collapsing true false cs) ≡ after_word (if s then words_after [] cs else words_after (c ∷ []) cs)) [
        | true ↦ later.0
        | false ↦ ap (λ x. 0x20 ∷ x) (later.1 [] c) ∙ sym (some_after [] c cs)
      ],
      λ begun b. elim (is_space c) as (λ s. (b ∷ begun) ++ (if s then collapsing true true cs else c ∷ collapsing true false cs) ≡ spaced (if s then (b ∷ begun) ∷ words_after [] cs else words_after (b ∷ (begun ++ c ∷ [])) cs)) [
        | true ↦ ap (λ x. (b ∷ begun) ++ x) later.0 ∙ sym (after_first (b ∷ begun) (words_after [] cs))
        | false ↦ sym (append_assoc (b ∷ begun) (c ∷ []) (collapsing true false cs)) ∙ later.1 (begun ++ c ∷ []) b
      ],
    )

-- before the first character
from_start : (cs : List ℕ) → collapsing false false cs ≡ spaced (words_after [] cs)
from_start [] = refl
from_start (c ∷ cs) =
    elim (is_space c) as (λ s. (if s then collapsing false false cs else c ∷ collapsing true false cs) ≡ spaced (if s then words_after [] cs else words_after (c ∷ []) cs)) [
      | true ↦ from_start cs
      | false ↦ (comes_right cs).1 [] c
    ]

-- all that comes is the collapsed text
pub all_collapsed : (cs : List ℕ) → collapsing false false cs ≡ collapsed cs
all_collapsed cs = from_start cs ∙ ap spaced (all_words cs)

-- a character of white space gives nothing yet
pub at_space : (begun gap : Bool) (c : ℕ) (cs : List ℕ) → is_space c ≡ true → collapsing begun gap (c ∷ cs) ≡ collapsing begun begun cs
at_space begun gap c cs h = ap (λ s. if s then collapsing begun begun cs else (if gap then 0x20 ∷ c ∷ collapsing true false cs else c ∷ collapsing true false cs)) h

-- any other gives itself, after a space where one is due
pub at_other : (begun gap : Bool) (c : ℕ) (cs : List ℕ) → is_space c ≡ false → collapsing begun gap (c ∷ cs) ≡ (if gap then 0x20 ∷ c ∷ collapsing true false cs else c ∷ collapsing true false cs)
at_other begun gap c cs h = ap (λ s. if s then collapsing begun begun cs else (if gap then 0x20 ∷ c ∷ collapsing true false cs else c ∷ collapsing true false cs)) h

-- what is made so far, with what is to come of the bytes that are left, is the collapsed text
pub record IsOnTheWay (made : List ℕ) (gap : Bool) (left : List ℕ) (all : List ℕ) : Type 0 where
  pub text : IsUtf8 left
  pub whole : made ++ encode_utf8_all (collapsing (not (length made == 0)) gap (chars left)) ≡ all

-- a character makes a text longer
more_made : (made : List ℕ) (c : ℕ) → not (length (made ++ encode_utf8 c) == 0) ≡ true
more_made made c = grind (arith, nat_tests, length-append made (encode_utf8 c), length-encode c, (len_utf8_bounds c).0)

-- nothing is made at first
pub way_starts : (text : List ℕ) → IsUtf8 text → IsOnTheWay [] false text (encode_utf8_all (collapsed (chars text)))
way_starts text u = record { text = u; whole = ap encode_utf8_all (all_collapsed (chars text)) }

-- where nothing is left, all is made
pub way_ends : (made left all : List ℕ) (gap : Bool) → IsOnTheWay made gap left all → length left ≡ 0 → made ≡ all
way_ends made left all gap way h =
    let none : chars left ≡ [] = ap chars (nil_from_length left h) ∙ chars-nil in
    sym (append-nil made) ∙ ap (λ cs. made ++ encode_utf8_all (collapsing (not (length made == 0)) gap cs)) (sym none) ∙ way.whole

-- one step over white space
pub space_taken : (made rest left all : List ℕ) (gap : Bool) (c : ℕ) → IsOnTheWay made gap left all → left ≡ encode_utf8 c ++ rest → is_space c ≡ true
    → IsOnTheWay made (not (length made == 0)) rest all
space_taken made rest left all gap c way e h = record {
  text = IsUtf8-past_char left rest c way.text e;
  whole =
      let begun = not (length made == 0) in
      ap (λ x. made ++ encode_utf8_all x) (sym (at_space begun gap c (chars rest) h) ∙ ap (collapsing begun gap) (sym (chars_past_char left rest c way.text e))) ∙ way.whole;
}

-- and over another character
abbrev pub with_gap : Bool → List ℕ → List ℕ
with_gap gap made = if gap then made ++ encode_utf8 0x20 else made

-- so a step over one that is no white space
pub other_taken : (made rest left all : List ℕ) (gap : Bool) (c : ℕ) → IsOnTheWay made gap left all → left ≡ encode_utf8 c ++ rest → is_space c ≡ false
    → IsOnTheWay (with_gap gap made ++ encode_utf8 c) false rest all
other_taken made rest left all gap c way e h = record {
  text = IsUtf8-past_char left rest c way.text e;
  whole =
      let begun = not (length made == 0) in
      ap (λ b. (with_gap gap made ++ encode_utf8 c) ++ encode_utf8_all (collapsing b false (chars rest))) (more_made (with_gap gap made) c)
      ∙ regroup gap
      ∙ ap (λ x. made ++ encode_utf8_all x) (sym (at_other begun gap c (chars rest) h) ∙ ap (collapsing begun gap) (sym (chars_past_char left rest c way.text e))) ∙ way.whole;
}
  where
    regroup : (gap : Bool) → (with_gap gap made ++ encode_utf8 c) ++ encode_utf8_all (collapsing true false (chars rest)) ≡ made ++ encode_utf8_all (if gap then 0x20 ∷ c ∷ collapsing true false (chars rest) else c ∷ collapsing true false (chars rest))
    regroup true =
        append_assoc (made ++ encode_utf8 0x20) (encode_utf8 c) (encode_utf8_all (collapsing true false (chars rest)))
        ∙ append_assoc made (encode_utf8 0x20) (encode_utf8 c ++ encode_utf8_all (collapsing true false (chars rest)))
    regroup false = append_assoc made (encode_utf8 c) (encode_utf8_all (collapsing true false (chars rest)))

-- how many characters are to come, at most
abbrev due : Bool → ℕ
due true = 1
due false = 0

-- one space is due, or none
due_one : (b : Bool) → due b ≤ 1
due_one true = omega arith
due_one false = omega arith

-- no more come than are left, and the space that is due
few_to_come : (begun gap : Bool) (cs : List ℕ) → length (collapsing begun gap cs) ≤ due gap + length cs
few_to_come begun gap [] = omega arith
few_to_come begun gap (c ∷ cs) =
    let spaced = few_to_come begun begun cs in
    let other = few_to_come true false cs in
    let one = due_one begun in
    elim (is_space c)
    as (λ s. length (if s then collapsing begun begun cs else (if gap then 0x20 ∷ c ∷ collapsing true false cs else c ∷ collapsing true false cs)) ≤ due gap + suc (length cs)) [
      | true ↦ omega arith
      | false ↦ elim gap as (λ g. length (if g then 0x20 ∷ c ∷ collapsing true false cs else c ∷ collapsing true false cs) ≤ due g + suc (length cs)) [
        | true ↦ omega arith
        | false ↦ omega arith
      ]
    ]

-- a collapsed text has no more characters than the text has bytes
pub collapsed_short : (text : List ℕ) → IsUtf8 text → length (collapsed (chars text)) ≤ length text
collapsed_short text u =
    let few : length (collapsed (chars text)) ≤ 0 + length (chars text) = rw (← all_collapsed (chars text)) (few_to_come false false (chars text)) in
    let bytes : length (chars text) ≤ length text = subst (λ bs. length (chars text) ≤ length bs) (encodes-chars text u) (length-le-encodes (chars text)) in
    omega arith

-- so many are counted, and those to come make up the collapsed text
pub record IsCounted (count : ℕ) (gap : Bool) (left : List ℕ) (all : List ℕ) : Type 0 where
  pub text : IsUtf8 left
  pub whole : count + length (collapsing (nat_lt 0 count) gap (chars left)) ≡ length all

-- none is counted at first
pub count_starts : (text : List ℕ) → IsUtf8 text → IsCounted 0 false text (collapsed (chars text))
count_starts text u = record { text = u; whole = zero-add _ ∙ ap length (all_collapsed (chars text)) }

-- where nothing is left, all are counted
pub count_ends : (count : ℕ) (left all : List ℕ) (gap : Bool) → IsCounted count gap left all → length left ≡ 0 → count ≡ length all
count_ends count left all gap way h =
    let none : chars left ≡ [] = ap chars (nil_from_length left h) ∙ chars-nil in
    sym (add-zero count) ∙ ap (λ cs. count + length (collapsing (nat_lt 0 count) gap cs)) (sym none) ∙ way.whole

-- white space counts nothing yet
pub space_counted : (count : ℕ) (rest left all : List ℕ) (gap : Bool) (c : ℕ) → IsCounted count gap left all → left ≡ encode_utf8 c ++ rest → is_space c ≡ true
    → IsCounted count (nat_lt 0 count) rest all
space_counted count rest left all gap c way e h = record {
  text = IsUtf8-past_char left rest c way.text e;
  whole =
      let begun = nat_lt 0 count in
      ap (λ x. count + length x) (sym (at_space begun gap c (chars rest) h) ∙ ap (collapsing begun gap) (sym (chars_past_char left rest c way.text e))) ∙ way.whole;
}

abbrev pub with_gap_length : Bool → ℕ
with_gap_length gap = if gap then 2 else 1

-- any other character counts with the space before it
pub other_counted : (count : ℕ) (rest left all : List ℕ) (gap : Bool) (c : ℕ) → IsCounted count gap left all → left ≡ encode_utf8 c ++ rest → is_space c ≡ false
    → IsCounted (count + with_gap_length gap) false rest all
other_counted count rest left all gap c way e h = record {
  text = IsUtf8-past_char left rest c way.text e;
  whole =
      let begun = nat_lt 0 count in
      ap (λ b. count + with_gap_length gap + length (collapsing b false (chars rest))) (more gap)
      ∙ regroup gap
      ∙ ap (λ x. count + length x) (sym (at_other begun gap c (chars rest) h) ∙ ap (collapsing begun gap) (sym (chars_past_char left rest c way.text e))) ∙ way.whole;
}
  where
    more : (gap : Bool) → nat_lt 0 (count + with_gap_length gap) ≡ true
    more true = lt-ltb _ _ (omega arith)
    more false = lt-ltb _ _ (omega arith)

    regroup : (gap : Bool) → count + with_gap_length gap + length (collapsing true false (chars rest)) ≡ count + length (if gap then 0x20 ∷ c ∷ collapsing true false (chars rest) else c ∷ collapsing true false (chars rest))
    regroup true = omega arith
    regroup false = omega arith

-- of two datatypes no character goes
pub none_goes : (k : DataType) (cs : List ℕ) → (k ≡ kind.String) ⊎ (k ≡ kind.NormalizedString) → length (treated k cs) ≡ length cs
none_goes k cs = ⊎_elim (λ e. rw e refl) (λ e. rw e (length-map cs (λ c. if is_space c then 0x20 else c)))
