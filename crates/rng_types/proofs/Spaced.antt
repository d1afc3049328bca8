-- The words between white space, found character by character.
use Rattle.std.proofs.Common.{◌≡◌, ℕ, ◌≤◌, ◌<◌, true, false, if◌then◌else◌, List, [], ◌∷◌, ◌++◌, refl, sym, ap, ◌∙◌, arith, ⊎_elim, append_assoc, filter, not, Bool, ◌≢◌, ◌↔◌, length, subst, IsUtf8}
use Rattle.std.proofs.Math.Utf8.{encode}
use Rattle.std.proofs.lemmas.Bool.{cases_lt, and_parts, cases_Bool}
use Rattle.std.proofs.lemmas.Bool.Decides.{nat_tests}
use Rattle.std.proofs.lemmas.List.{append-nil}
use Rattle.std.proofs.lemmas.List.Elements.{All-nil, All-cons}
use Rattle.std.proofs.lemmas.Str.{encode_ascii, encodes-chars, length-le-encodes}
use Rattle.std.specs.List.{list_all, list_any}
use Rattle.std.specs.Prelude.{IsTrue, All}
use Rattle.std.specs.Str.{chars, encode_utf8_all}
use Rattle.odd_tokens.proofs.Characters.{encoded_more, list_all_more}
use Rattle.odd_tokens.specs.Characters.{is_space, IsLegal, is_char}
use Rattle.rng_types.specs.Words.{ended, begun_with, is_filled, pieces_of, words_of}

-- the words where one has begun
abbrev pub words_after : List ℕ → List ℕ → List (List ℕ)
words_after begun [] = ended begun []
words_after begun (c ∷ cs) = if is_space c then ended begun (words_after [] cs) else words_after (begun ++ c ∷ []) cs

-- what has begun stands before the first piece
abbrev prepended : List ℕ → List (List ℕ) → List (List ℕ)
prepended begun [] = begun ∷ []
prepended begun (piece ∷ pieces) = (begun ++ piece) ∷ pieces

ended_filled : (begun : List ℕ) (pieces : List (List ℕ)) → ended begun (filter is_filled pieces) ≡ filter is_filled ((begun ++ []) ∷ pieces)
ended_filled [] pieces = refl
ended_filled (c ∷ cs) pieces = λ n. (c ∷ sym (append-nil cs) n) ∷ filter is_filled pieces

none_prepended : (value : List ℕ) → prepended [] (pieces_of value) ≡ pieces_of value
none_prepended [] = refl
none_prepended (c ∷ cs) =
    elim (is_space c) as (λ b. prepended [] (if b then [] ∷ pieces_of cs else begun_with c (pieces_of cs)) ≡ (if b then [] ∷ pieces_of cs else begun_with c (pieces_of cs))) [
      | true ↦ refl
      | false ↦ any (pieces_of cs)
    ]
  where
    any : (pieces : List (List ℕ)) → prepended [] (begun_with c pieces) ≡ begun_with c pieces
    any [] = refl
    any (p ∷ ps) = refl

prepended_more : (begun : List ℕ) (c : ℕ) (pieces : List (List ℕ)) → prepended (begun ++ c ∷ []) pieces ≡ prepended begun (begun_with c pieces)
prepended_more begun c [] = refl
prepended_more begun c (p ∷ ps) = ap (λ x. x ∷ ps) (append_assoc begun (c ∷ []) p)

-- they are the words of what has begun and what comes
words_begun : (begun value : List ℕ) → words_after begun value ≡ filter is_filled (prepended begun (pieces_of value))
words_begun begun [] = ended_filled begun []
words_begun begun (c ∷ cs) =
    let spaced : ended begun (words_after [] cs) ≡ filter is_filled ((begun ++ []) ∷ pieces_of cs) =
    ap (ended begun) (words_begun [] cs ∙ ap (filter is_filled) (none_prepended cs)) ∙ ended_filled begun (pieces_of cs) in
    let more : words_after (begun ++ c ∷ []) cs ≡ filter is_filled (prepended begun (begun_with c (pieces_of cs))) =
    words_begun (begun ++ c ∷ []) cs ∙ ap (filter is_filled) (prepended_more begun c (pieces_of cs)) in
    elim (is_space c) as (λ b. (if b then ended begun (words_after [] cs) else words_after (begun ++ c ∷ []) cs) ≡ filter is_filled (prepended begun (if b then [] ∷ pieces_of cs else begun_with c (pieces_of cs)))) [
      | true ↦ spaced
      | false ↦ more
    ]

-- where none has begun they are the words of the value
pub all_words : (value : List ℕ) → words_after [] value ≡ words_of value
all_words value = words_begun [] value ∙ ap (filter is_filled) (none_prepended value)

-- a byte that is no white space
abbrev pub no_space : ℕ → Bool
no_space c = not (is_space c)

-- told the other way round
not_space : (c : ℕ) → no_space c ≡ true → is_space c ≡ false
not_space c h = grind (arith, nat_tests)

-- bytes that are no white space go on with the word
over : (begun bytes rest : List ℕ) → list_all no_space bytes ≡ true → words_after begun (bytes ++ rest) ≡ words_after (begun ++ bytes) rest
over begun [] rest h = ap (λ x. words_after x rest) (sym (append-nil begun))
over begun (c ∷ cs) rest h =
    ap (λ b. if b then ended begun (words_after [] (cs ++ rest)) else words_after (begun ++ c ∷ []) (cs ++ rest)) (not_space c (and_parts (no_space c) (list_all no_space cs) h).0)
    ∙ over (begun ++ c ∷ []) cs rest (and_parts (no_space c) (list_all no_space cs) h).1
    ∙ ap (λ x. words_after x rest) (append_assoc begun (c ∷ []) cs)

-- so are the bytes of a character from 128 on
high_bytes : (c : ℕ) → 128 ≤ c → list_all no_space (encode c) ≡ true
unfolding encode
high_bytes c h = grind (arith, nat_tests)

-- and a character below 128 that is no white space
low_byte : (c : ℕ) → is_space c ≡ false → no_space c ≡ true
low_byte c h = grind (arith, nat_tests)

-- no byte of a character that is no white space is white space
bytes_of : (c : ℕ) → is_space c ≡ false → list_all no_space (encode c) ≡ true
bytes_of c h = ⊎_elim (λ low. rw (encode_ascii c low) (rw (low_byte c h) refl)) (high_bytes c) (cases_lt c 128)

-- any other character goes on with the word
pub at_other : (begun rest : List ℕ) (c : ℕ) → is_space c ≡ false → words_after begun (encode c ++ rest) ≡ words_after (begun ++ encode c) rest
at_other begun rest c h = over begun (encode c) rest (bytes_of c h)

-- white space is ASCII
space_low : (c : ℕ) → is_space c ≡ true → c < 128
space_low c h = grind (arith, nat_tests)

-- a character of white space ends the word
pub at_space : (begun rest : List ℕ) (c : ℕ) → is_space c ≡ true → words_after begun (encode c ++ rest) ≡ ended begun (words_after [] rest)
at_space begun rest c h =
    ap (λ bytes. words_after begun (bytes ++ rest)) (encode_ascii c (space_low c h))
    ∙ ap (λ b. if b then ended begun (words_after [] rest) else words_after (begun ++ c ∷ []) rest) h

-- a word that has begun is a word
begun_stays : (begun bytes : List ℕ) → 1 ≤ length begun → words_after begun bytes ≢ []
begun_stays [] bytes h = absurd (omega arith)
begun_stays (b ∷ begun) [] h = λ e. cc
begun_stays (b ∷ begun) (c ∷ cs) h =
    elim (is_space c) as (λ s. (if s then ended (b ∷ begun) (words_after [] cs) else words_after (b ∷ (begun ++ c ∷ [])) cs) ≢ []) [
      | true ↦ λ e. cc
      | false ↦ begun_stays (b ∷ (begun ++ c ∷ [])) cs (omega arith)
    ]

-- a character has a byte
some_byte : (c : ℕ) → 1 ≤ length (encode c)
some_byte c = subst (λ bytes. 1 ≤ length bytes) (append-nil (encode c)) (length-le-encodes (c ∷ []))

-- the first character is white space, or begins a word
word_from : (c : ℕ) (cs : List ℕ) → IsTrue (list_any no_space cs) ↔ (words_after [] (encode_utf8_all cs) ≢ []) → IsTrue (list_any no_space (c ∷ cs)) ↔ (words_after [] (encode_utf8_all (c ∷ cs)) ≢ [])
word_from c cs later =
    ⊎_elim (λ e. rw (at_space [] (encode_utf8_all cs) c e) (rw e later))
    (λ e. (λ h. rw (at_other [] (encode_utf8_all cs) c e) (begun_stays (encode c) (encode_utf8_all cs) (some_byte c)), λ h. rw e refl)) (cases_Bool (is_space c))

-- characters make a word where one of them is no white space
some_word : (cs : List ℕ) → IsTrue (list_any no_space cs) ↔ (words_after [] (encode_utf8_all cs) ≢ [])
some_word [] = (λ h. cc, λ h. absurd (h refl))
some_word (c ∷ cs) = word_from c cs (some_word cs)

-- and so does a text of UTF-8
pub any_word : (value : List ℕ) → IsUtf8 value → IsTrue (list_any no_space (chars value)) ↔ (words_of value ≢ [])
any_word value u = subst (λ words. IsTrue (list_any no_space (chars value)) ↔ (words ≢ [])) (ap (words_after []) (encodes-chars value u) ∙ all_words value) (some_word (chars value))

-- a legal text with one more character is legal
legal_more : (begun : List ℕ) (c : ℕ) → IsLegal begun → is_char c ≡ true → IsLegal (begun ++ encode c)
legal_more begun c h is = (h.0 ++ c ∷ [], encoded_more h.0 c ∙ ap (λ bs. bs ++ encode c) h.1, list_all_more is_char h.0 c h.2 is)

-- a word that ends, before those that come later, is legal where they are
ended_legal : (begun : List ℕ) (later : List (List ℕ)) → IsLegal begun → All IsLegal later → All IsLegal (ended begun later)
ended_legal [] later h k = k
ended_legal (c ∷ cs) later h k = All-cons IsLegal (c ∷ cs) later h k

-- the words are legal where a legal one has begun
words_after_legal : (begun cs : List ℕ) → IsLegal begun → IsTrue (list_all is_char cs) → All IsLegal (words_after begun (encode_utf8_all cs))
words_after_legal begun [] h k = ended_legal begun [] h (All-nil IsLegal)
words_after_legal begun (c ∷ cs) h k =
    let p = and_parts (is_char c) (list_all is_char cs) k in
    ⊎_elim
    (λ e. subst (All IsLegal) (sym (at_space begun (encode_utf8_all cs) c e)) (ended_legal begun _ h (words_after_legal [] cs ([], refl, refl) p.1)))
    (λ e. subst (All IsLegal) (sym (at_other begun (encode_utf8_all cs) c e)) (words_after_legal (begun ++ encode c) cs (legal_more begun c h p.0) p.1))
    (cases_Bool (is_space c))

-- and so are all words of a legal value
pub words_legal : (value : List ℕ) → IsLegal value → All IsLegal (words_of value)
words_legal value h = subst (All IsLegal) (ap (words_after []) h.1 ∙ all_words value) (words_after_legal [] h.0 ([], refl, refl) h.2)
