-- References by number that are read at once.
use Rattle.std.proofs.Common.{◌≡◌, ◌≢◌, ℕ, ◌+◌, ◌*◌, ◌<◌, Bool, true, List, [], ◌∷◌, ◌++◌, length, get_or, refl, ap, ◌∙◌, subst, append_assoc, codes, arith}
use Rattle.std.proofs.lemmas.Bool.{and_from, lt-ltb, ne_eqb}
use Rattle.std.proofs.lemmas.Bool.Decides.{nat_tests}
use Rattle.std.specs.Char.{digit_value}
use Rattle.std.specs.List.{list_all}
use Rattle.std.specs.Str.{encode_utf8_all}
use Rattle.std.specs.Str.Parse.{AllDigits, digits_value_after, without_leading_plus}
use Rattle.odd_tokens.proofs.Ascii.{ascii_codes, ascii_text}
use Rattle.odd_tokens.proofs.Characters.{IsBase, decimal_base, decimal_value, hexadecimal_base, hexadecimal_value, number_of}
use Rattle.odd_tokens.specs.Characters.{is_char}
use Rattle.odd_tokens.specs.Tokens.{decimal, hexadecimal, is_decimal_digit, is_hexadecimal_digit}
use Rattle.odd_reader.specs.Tagging.{AreDigitsFirst, IsReferenceFirst}
use Rattle.odd_reader.proofs.SectionProofs.{reference_first}
use Rattle.odd_reader.proofs.TaggingProofs.{joined}

-- a numeral without a sign
pub no_plus : (bs : List ℕ) → get_or bs 0 0 ≢ 0x2B → without_leading_plus bs ≡ bs
no_plus [] n = refl
no_plus (b ∷ bs) n = rw (ne_eqb b 0x2B n) refl

-- digits of a base, in the words of the tokens
module _ {base : ℕ} {test : ℕ → Bool} {value : ℕ → ℕ} (b : IsBase base test value) where
  all_digits : (ds : List ℕ) → AllDigits base ds → list_all test ds ≡ true
  all_digits [] a = refl
  all_digits (d ∷ ds) a = and_from _ _ (b.tested d (lt-ltb (digit_value d) base a.0)) (all_digits ds a.1)

  same_number : (n : ℕ) (ds : List ℕ) → AllDigits base ds → digits_value_after base n ds ≡ number_of base n value ds
  same_number n [] a = refl
  same_number n (d ∷ ds) a =
      ap (λ m. digits_value_after base (n * base + m) ds) (b.same d (b.tested d (lt-ltb (digit_value d) base a.0))) ∙ same_number (n * base + value d) ds a.1

some_digit : (ds : List ℕ) → 0 < length ds → ds ≢ []
some_digit [] some e = absurd (omega (arith, some))
some_digit (d ∷ ds) some e = cc e

decimal_low : (d : ℕ) → is_decimal_digit d ≡ true → d < 128
decimal_low d h = grind (arith, nat_tests)

hexadecimal_low : (d : ℕ) → is_hexadecimal_digit d ≡ true → d < 128
hexadecimal_low d h = grind (arith, nat_tests)

number_bytes : (mark digits : List ℕ) → encode_utf8_all mark ≡ mark → encode_utf8_all digits ≡ digits → encode_utf8_all (mark ++ digits ++ codes ";") ≡ mark ++ digits ++ codes ";"
number_bytes mark digits m d = joined (mark ++ digits) (codes ";") (mark ++ digits) (codes ";") (joined mark digits mark digits m d) (ascii_codes (codes ";") refl)

number_assembled : (mark digits rest : List ℕ) → mark ++ (digits ++ 0x3B ∷ rest) ≡ (mark ++ digits ++ codes ";") ++ rest
number_assembled mark digits rest = simp append_assoc

pub decimal_first : (text after rest : List ℕ) (c : ℕ) → text ≡ codes "&#" ++ after → AreDigitsFirst 10 after c rest → IsReferenceFirst text c rest
decimal_first text after rest c e f =
    let tested = all_digits decimal_base f.digits f.number.numeral.1 in
    let v : c ≡ number_of 10 0 decimal_value f.digits = f.number.value ∙ same_number decimal_base 0 f.digits f.number.numeral.1 in
    reference_first text (codes "&#" ++ f.digits ++ codes ";") rest c (decimal f.digits) (some_digit f.digits f.number.numeral.0, tested, subst (λ x. is_char x ≡ true) v f.number.legal)
    (number_bytes (codes "&#") f.digits (ascii_codes (codes "&#") refl) (ascii_text is_decimal_digit decimal_low f.digits tested)) v
    (e ∙ ap (λ bs. codes "&#" ++ bs) f.parts ∙ number_assembled (codes "&#") f.digits rest)

pub hexadecimal_first : (text after rest : List ℕ) (c : ℕ) → text ≡ codes "&#x" ++ after → AreDigitsFirst 16 after c rest → IsReferenceFirst text c rest
hexadecimal_first text after rest c e f =
    let tested = all_digits hexadecimal_base f.digits f.number.numeral.1 in
    let v : c ≡ number_of 16 0 hexadecimal_value f.digits = f.number.value ∙ same_number hexadecimal_base 0 f.digits f.number.numeral.1 in
    reference_first text (codes "&#x" ++ f.digits ++ codes ";") rest c (hexadecimal f.digits) (some_digit f.digits f.number.numeral.0, tested, subst (λ x. is_char x ≡ true) v f.number.legal)
    (number_bytes (codes "&#x") f.digits (ascii_codes (codes "&#x") refl) (ascii_text is_hexadecimal_digit hexadecimal_low f.digits tested)) v
    (e ∙ ap (λ bs. codes "&#x" ++ bs) f.parts ∙ number_assembled (codes "&#x") f.digits rest)
