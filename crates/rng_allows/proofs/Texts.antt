-- Texts of UTF-8 by their characters: white space collapsed, and replaced.
use Rattle.std.proofs.Common.{◌≡◌, ◌≢◌, ℕ, Bool, true, false, if◌then◌else◌, List, [], ◌∷◌, ◌++◌, refl, sym, ap, ◌∙◌, append_assoc, append-nil, length, IsUtf8, encode_utf8}
use Rattle.std.proofs.Math.Utf8.{scalar, scalars}
use Rattle.std.proofs.lemmas.Bool.{and_from, and_parts, cond_both}
use Rattle.std.proofs.lemmas.List.{nil_from_length}
use Rattle.std.proofs.lemmas.Str.{IsUtf8-past_char, chars-encodes, chars-nil, chars_past_char, encodes_same, scalars-chars}
use Rattle.std.specs.Str.{chars, encode_utf8_all}
use Rattle.odd_tokens.specs.Characters.{is_space}
use Rattle.rng_types.specs.declared.data_type.DataType.{DataType}
use Rattle.rng_types.specs.declared.data_type.DataType.TheVariants as kind
use Rattle.rng_values.proofs.Collapsing.{all_collapsed, collapsing}
use Rattle.rng_values.specs.Treated.{collapsed, collapsed_text, replaced, treated}

-- characters stay such as Unicode has
still_scalar : (begun gap : Bool) (cs : List ℕ) → scalars cs ≡ true → scalars (collapsing begun gap cs) ≡ true
still_scalar begun gap [] h = refl
still_scalar begun gap (c ∷ cs) h =
    cond_both (is_space c) (collapsing begun begun cs) (if gap then 0x20 ∷ c ∷ collapsing true false cs else c ∷ collapsing true false cs) (λ made. scalars made ≡ true)
    (λ space. still_scalar begun begun cs (and_parts _ _ h).1) (λ other. by gap (and_from _ _ (and_parts _ _ h).0 (still_scalar true false cs (and_parts _ _ h).1)))
  where
    by : (due : Bool) → scalars (c ∷ collapsing true false cs) ≡ true → scalars (if due then 0x20 ∷ c ∷ collapsing true false cs else c ∷ collapsing true false cs) ≡ true
    by true more = more
    by false more = more

-- a collapsed text has the characters that are collapsed
pub chars_collapsed : (text : List ℕ) → IsUtf8 text → chars (collapsed_text text) ≡ collapsed (chars text)
chars_collapsed text u = chars-encodes (collapsed (chars text)) (ap scalars (sym (all_collapsed (chars text))) ∙ still_scalar false false (chars text) (scalars-chars text u))

-- collapsed texts are the same where their characters are
pub same_collapsed : (one other : List ℕ) → collapsed_text one ≡ collapsed_text other → collapsed (chars one) ≡ collapsed (chars other)
same_collapsed one other e = encodes_same (collapsed (chars one)) (collapsed (chars other)) e

-- but for two datatypes a text is collapsed
others_collapsed : (k : DataType) (cs : List ℕ) → k ≢ kind.String → k ≢ kind.NormalizedString → treated k cs ≡ collapsed cs
others_collapsed kind.String cs no_string no_normalized = absurd (no_string refl)
others_collapsed kind.NormalizedString cs no_string no_normalized = absurd (no_normalized refl)
others_collapsed k cs no_string no_normalized = refl

-- so a collapsed text has the characters that such a datatype tests
pub chars_treated : (k : DataType) (text made : List ℕ) → IsUtf8 text → k ≢ kind.String → k ≢ kind.NormalizedString → made ≡ collapsed_text text → chars made ≡ treated k (chars text)
chars_treated k text made u no_string no_normalized e = ap chars e ∙ chars_collapsed text u ∙ sym (others_collapsed k (chars text) no_string no_normalized)

-- a space in the place of white space
abbrev pub one_replaced : ℕ → ℕ
one_replaced c = if is_space c then 0x20 else c

-- and then it is still a character
replaced_scalar : (cs : List ℕ) → scalars cs ≡ true → scalars (replaced cs) ≡ true
replaced_scalar [] h = refl
replaced_scalar (c ∷ cs) h =
    and_from _ _ (cond_both (is_space c) 0x20 c (λ made. scalar made ≡ true) (λ space. refl) (λ other. (and_parts _ _ h).0)) (replaced_scalar cs (and_parts _ _ h).1)

-- what is made so far, with what is to come of the bytes that are left, is the text replaced
pub record IsReplacing (made left text : List ℕ) : Type 0 where
  pub legal : IsUtf8 left
  pub whole : made ++ encode_utf8_all (replaced (chars left)) ≡ encode_utf8_all (replaced (chars text))

-- nothing is made at first
pub replacing_starts : (text : List ℕ) → IsUtf8 text → IsReplacing [] text text
replacing_starts text u = record { legal = u; whole = refl }

-- one character is replaced
pub one_taken : (made left rest text : List ℕ) (c : ℕ) → IsReplacing made left text → left ≡ encode_utf8 c ++ rest → IsReplacing (made ++ encode_utf8 (one_replaced c)) rest text
one_taken made left rest text c way e = record {
  legal = IsUtf8-past_char left rest c way.legal e;
  whole =
      append_assoc made (encode_utf8 (one_replaced c)) (encode_utf8_all (replaced (chars rest)))
      ∙ ap (λ cs. made ++ encode_utf8_all (replaced cs)) (sym (chars_past_char left rest c way.legal e)) ∙ way.whole;
}

-- where nothing is left, the text has the characters that are replaced
pub replacing_ends : (made left text : List ℕ) → IsUtf8 text → IsReplacing made left text → length left ≡ 0 → chars made ≡ replaced (chars text)
replacing_ends made left text u way h =
    let none : chars left ≡ [] = ap chars (nil_from_length left h) ∙ chars-nil in
    let all : made ≡ encode_utf8_all (replaced (chars text)) = sym (append-nil made) ∙ ap (λ cs. made ++ encode_utf8_all (replaced cs)) (sym none) ∙ way.whole in
    ap chars all ∙ chars-encodes (replaced (chars text)) (replaced_scalar (chars text) (scalars-chars text u))
