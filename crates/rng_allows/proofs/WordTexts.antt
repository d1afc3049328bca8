-- The words of a text of UTF-8 by their characters.
use Rattle.std.proofs.Common.{◌≡◌, ℕ, ◌≤◌, true, Bool, List, [], ◌∷◌, ◌++◌, refl, sym, ap, ◌∙◌, arith, ⊎_elim, length, length-append, map, IsUtf8, encode_utf8}
use Rattle.std.proofs.Math.Utf8.{scalar, scalars}
use Rattle.std.proofs.lemmas.Bool.{and_from, and_parts, cases_Bool}
use Rattle.std.proofs.lemmas.Str.{chars-encodes, encodes-chars, length-encode, len_utf8_bounds, scalars-chars}
use Rattle.std.specs.Prelude.{if◌then◌else◌}
use Rattle.std.specs.Str.{chars, encode_utf8_all}
use Rattle.odd_tokens.proofs.Characters.{encoded_more}
use Rattle.odd_tokens.specs.Characters.{is_space}
use Rattle.rng_types.proofs.Spaced.{all_words, at_other, at_space, words_after}
use Rattle.rng_types.specs.Words.{ended, words_of}

-- one more character
scalars_more : (cs : List ℕ) (c : ℕ) → scalars cs ≡ true → scalar c ≡ true → scalars (cs ++ c ∷ []) ≡ true
scalars_more [] c h k = and_from _ _ k refl
scalars_more (d ∷ ds) c h k = and_from _ _ (and_parts _ _ h).0 (scalars_more ds c (and_parts _ _ h).1 k)

-- a word that has a byte stands before the later ones
ended_some : (bytes : List ℕ) (later : List (List ℕ)) → 1 ≤ length bytes → ended bytes later ≡ bytes ∷ later
ended_some [] later h = absurd (omega arith)
ended_some (b ∷ bytes) later h = refl

-- a word that ends, by its characters
ended_chars : (begun : List ℕ) (later : List (List ℕ)) → scalars begun ≡ true → map chars (ended (encode_utf8_all begun) later) ≡ ended begun (map chars later)
ended_chars [] later h = refl
ended_chars (c ∷ cs) later h =
    let bytes = encode_utf8_all (c ∷ cs) in
    let some : 1 ≤ length bytes = omega (arith, length-append (encode_utf8 c) (encode_utf8_all cs), length-encode c, (len_utf8_bounds c).0) in
    ap (map chars) (ended_some bytes later some) ∙ ap (λ word. word ∷ map chars later) (chars-encodes (c ∷ cs) h)

-- the words where one has begun, by their characters
after_chars : (begun cs : List ℕ) → scalars begun ≡ true → scalars cs ≡ true → map chars (words_after (encode_utf8_all begun) (encode_utf8_all cs)) ≡ words_after begun cs
after_chars begun [] h k = ended_chars begun [] h
after_chars begun (c ∷ cs) h k =
    let bytes = encode_utf8_all begun in
    let p = and_parts (scalar c) (scalars cs) k in
    let either : Bool → List (List ℕ) = λ s. if s then ended begun (words_after [] cs) else words_after (begun ++ c ∷ []) cs in
    ⊎_elim
    (λ e. ap (map chars) (at_space bytes (encode_utf8_all cs) c e) ∙ ended_chars begun (words_after [] (encode_utf8_all cs)) h ∙ ap (ended begun) (after_chars [] cs refl p.1) ∙ sym (ap either e))
    (λ e. ap (map chars) (at_other bytes (encode_utf8_all cs) c e ∙ ap (λ x. words_after x (encode_utf8_all cs)) (sym (encoded_more begun c))) ∙ after_chars (begun ++ c ∷ []) cs (scalars_more begun c h p.0) p.1 ∙ sym (ap either e))
    (cases_Bool (is_space c))

-- the words of a text have the characters of the words of its characters
pub words_chars : (value : List ℕ) → IsUtf8 value → map chars (words_of value) ≡ words_of (chars value)
words_chars value u =
    ap (map chars) (sym (ap (words_after []) (encodes-chars value u) ∙ all_words value)) ∙ after_chars [] (chars value) refl (scalars-chars value u) ∙ all_words (chars value)
