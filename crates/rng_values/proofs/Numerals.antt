-- Numbers as texts: signs, digits and points.
use Rattle.std.proofs.Common.{◌≡◌, ℕ, ◌==◌, ◌+◌, ◌*◌, ◌&&◌, ◌||◌, ◌++◌, ◌≢◌, ◌↔◌, ◌⊎◌, Bool, true, false, cond, List, [], ◌∷◌, refl, arith, inl, inr, ⊎_elim, sym, ap, ◌∙◌, drop, subst, lit<, encode_utf8, ◌<◌, length, Bor, Option, Some, None, MatchOption, IsTrue, IsUtf8}
use Rattle.std.proofs.lemmas.Bool.{and_from, and_parts, both_ways, cases_eq, eqb-true, false_from_ne_true, ne_eqb, or_left}
use Rattle.std.proofs.lemmas.Bool.Decides.{nat_tests}
use Rattle.std.proofs.lemmas.Str.{encodes-chars}
use Rattle.std.proofs.lemmas.Str.Pattern.{strip_prefix_char}
use Rattle.std.specs.Char.{digit_value, is_ascii_digit}
use Rattle.std.specs.List.{list_all}
use Rattle.std.specs.Str.{chars, encode_utf8_all}
use Rattle.std.specs.Option.{unwrap_or}
use Rattle.std.specs.Str.Pattern.{FindsCharPrefix}
use Rattle.std.specs.Str.Parse.{digits_value, digits_value_after, starts_with_minus, without_leading_sign}
use Rattle.odd_tokens.proofs.Characters.{all_weaker, same_front}
use Rattle.rng_values.specs.Lexical.{AreDigits, HasSign, IsDecimal, IsDecimalPart, IsInteger, IsNonNegative, IsPositive, minus, none, plus, pointed, whole}
use Rattle.rng_values.proofs.Splitting.{IsCutAt, all_apart, all_joined, is_other, stripped}

-- characters that are no sign stand without one
unsigned : (p : ℕ → Bool) → p 0x2D ≡ false → p 0x2B ≡ false → (cs : List ℕ) → IsTrue (list_all p cs) → (starts_with_minus cs ≡ false) × (without_leading_sign cs ≡ cs)
unsigned p m q [] h = (refl, refl)
unsigned p m q (c ∷ cs) h =
    let is = (and_parts (p c) (list_all p cs) h).0 in
    let no_minus : (c == 0x2D) ≡ false = ne_eqb c 0x2D (λ e. both_ways _ (ap p e ∙ m) is) in
    let no_plus : (c == 0x2B) ≡ false = ne_eqb c 0x2B (λ e. both_ways _ (ap p e ∙ q) is) in
    (no_minus, rw (no_minus, no_plus) refl)

-- a text read after the character of its sign, and one that begins with neither

-- a minus
pub minus_read : (text rest : List ℕ) → IsUtf8 text → text ≡ 0x2D ∷ rest → (true ≡ starts_with_minus (chars text)) × (chars rest ≡ without_leading_sign (chars text))
minus_read text rest u e = let read = stripped 0x2D text rest u (lit< tt) e in (sym (ap starts_with_minus read), sym (ap without_leading_sign read))

-- a plus
plus_read : (text rest : List ℕ) → IsUtf8 text → text ≡ 0x2B ∷ rest → chars rest ≡ without_leading_sign (chars text)
plus_read text rest u e = sym (ap without_leading_sign (stripped 0x2B text rest u (lit< tt) e))

-- a text that does not begin with a character has another for its first
first_read : (c : ℕ) (text : List ℕ) → IsUtf8 text → c < 128 → ((rest : List ℕ) → text ≢ encode_utf8 c ++ rest) → (d : ℕ) (cs : List ℕ) → chars text ≡ d ∷ cs → (d == c) ≡ false
first_read c text u low n d cs e = ne_eqb d c (λ same. n (encode_utf8_all cs) (sym (encodes-chars text u) ∙ ap encode_utf8_all e ∙ ap (λ x. encode_utf8 x ++ encode_utf8_all cs) same))

-- no minus
pub no_minus_read : (text : List ℕ) → IsUtf8 text → ((rest : List ℕ) → text ≢ encode_utf8 0x2D ++ rest) → false ≡ starts_with_minus (chars text)
no_minus_read text u n = read (chars text) refl
  where
    read : (cs : List ℕ) → chars text ≡ cs → false ≡ starts_with_minus cs
    read [] e = refl
    read (c ∷ cs) e = sym (first_read 0x2D text u (lit< tt) n c cs e)

-- neither
unsigned_read : (text : List ℕ) → IsUtf8 text → ((rest : List ℕ) → text ≢ encode_utf8 0x2D ++ rest) → ((rest : List ℕ) → text ≢ encode_utf8 0x2B ++ rest) → chars text ≡ without_leading_sign (chars text)
unsigned_read text u n m = read (chars text) refl
  where
    read : (cs : List ℕ) → chars text ≡ cs → cs ≡ without_leading_sign cs
    read [] e = refl
    read (c ∷ cs) e = rw (first_read 0x2D text u (lit< tt) n c cs e, first_read 0x2B text u (lit< tt) m c cs e) refl

-- a plus or neither, as `strip_prefix` tells them apart
pub no_plus_read : (text : Bor (List ℕ)) (rest : Option (Bor (List ℕ))) → IsUtf8 text.now → ((rest : List ℕ) → text.now ≢ encode_utf8 0x2D ++ rest)
    → MatchOption rest (FindsCharPrefix 0x2B text.now None) (λ x. (n : ℕ) × FindsCharPrefix 0x2B text.now (Some n) × (x.now ≡ drop n text.now) × (length x.now + n ≡ length text.now))
    → chars (unwrap_or rest text).now ≡ without_leading_sign (chars text.now)
no_plus_read text None u n h = unsigned_read text.now u n h
no_plus_read text (Some rest) u n h = plus_read text.now rest.now u (strip_prefix_char 0x2B text.now (Some rest) h (lit< tt))

-- so what follows a sign is determined
pub signed_by : (p : ℕ → Bool) → p 0x2D ≡ false → p 0x2B ≡ false → (cs : List ℕ) (negative : Bool) (rest : List ℕ) → HasSign cs negative rest → IsTrue (list_all p rest)
    → (negative ≡ starts_with_minus cs) × (rest ≡ without_leading_sign cs)
signed_by p m q cs negative rest none h = let first = unsigned p m q cs h in (sym first.0, sym first.1)
signed_by p m q cs negative rest plus h = (refl, refl)
signed_by p m q cs negative rest minus h = (refl, refl)

-- each text has a sign or none
pub sign_read : (cs : List ℕ) → HasSign cs (starts_with_minus cs) (without_leading_sign cs)
sign_read [] = none
sign_read (c ∷ cs) =
    let Read : ℕ → Type 0 = λ d. HasSign (d ∷ cs) (d == 0x2D) (cond (d == 0x2D) cs (drop (cond (d == 0x2B) 1 0) (d ∷ cs))) in
    ⊎_elim (λ e. subst Read (sym e) minus) (λ no_minus. ⊎_elim (λ e. subst Read (sym e) plus) (λ no_plus. rw (ne_eqb c 0x2D no_minus, ne_eqb c 0x2B no_plus) none) (cases_eq c 0x2B)) (cases_eq c 0x2D)

-- integers

-- digits after the sign make an integer
abbrev read_integer : (cs : List ℕ) → AreDigits (without_leading_sign cs) → IsInteger cs
read_integer cs d = record { negative = starts_with_minus cs; digits = without_leading_sign cs; signed = sign_read cs; are_digits = d }

-- its sign and digits are those of the text
integer_parts : (cs : List ℕ) (i : IsInteger cs) → (i.negative ≡ starts_with_minus cs) × (i.digits ≡ without_leading_sign cs)
integer_parts cs i = signed_by is_ascii_digit refl refl cs i.negative i.digits i.signed i.are_digits.1

-- so digits stand after the sign
pub integer_digits : (cs : List ℕ) → IsInteger cs → AreDigits (without_leading_sign cs)
integer_digits cs i = subst AreDigits (integer_parts cs i).1 i.are_digits

-- the test of an integer
pub integer_tested : (cs : List ℕ) → AreDigits (without_leading_sign cs) ↔ IsInteger cs
integer_tested cs = (read_integer cs, integer_digits cs)

-- digits whose value is 0 are zeros

abbrev pub are_zeros : List ℕ → Bool
are_zeros cs = list_all (λ c. c == 0x30) cs

-- the value of zeros
zeros_value : (cs : List ℕ) → IsTrue (are_zeros cs) → digits_value 10 cs ≡ 0
zeros_value [] h = refl
zeros_value (c ∷ cs) h =
    let parts = and_parts (c == 0x30) (are_zeros cs) h in
    ap (λ d. digits_value_after 10 (0 * 10 + digit_value d) cs) (eqb-true c 0x30 parts.0) ∙ zeros_value cs parts.1

-- a digit that is worth nothing
zero_digit : (c : ℕ) → is_ascii_digit c ≡ true → digit_value c ≡ 0 → (c == 0x30) ≡ true
zero_digit c h e = grind (arith, nat_tests)

-- digits of no value, and what came before them
value_zeros : (n : ℕ) (cs : List ℕ) → IsTrue (list_all is_ascii_digit cs) → digits_value_after 10 n cs ≡ 0 → (n ≡ 0) × IsTrue (are_zeros cs)
value_zeros n [] h e = (e, refl)
value_zeros n (c ∷ cs) h e =
    let parts = and_parts (is_ascii_digit c) (list_all is_ascii_digit cs) h in
    let later : (n * 10 + digit_value c ≡ 0) × IsTrue (are_zeros cs) = value_zeros (n * 10 + digit_value c) cs parts.1 e in
    let none_before : n ≡ 0 = omega (arith, later.0) in
    let zero : digit_value c ≡ 0 = omega (arith, later.0) in
    (none_before, and_from (c == 0x30) (are_zeros cs) (zero_digit c parts.0 zero) later.1)

-- the test of an integer that is not below zero
pub non_negative_tested : (cs : List ℕ) → (AreDigits (without_leading_sign cs) × ((starts_with_minus cs ≡ false) ⊎ IsTrue (are_zeros (without_leading_sign cs)))) ↔ IsNonNegative cs
non_negative_tested cs = (
  λ h. record { is_integer = read_integer cs h.0; value = ⊎_elim inl (λ z. inr (zeros_value (without_leading_sign cs) z)) h.1 },
  λ n.
      let i = n.is_integer in
      let parts = integer_parts cs i in
      (integer_digits cs i, ⊎_elim (λ e. inl (sym parts.0 ∙ e)) (λ z. inr (subst (λ ds. IsTrue (are_zeros ds)) parts.1 (value_zeros 0 i.digits i.are_digits.1 z).1)) n.value),
)

-- the test of an integer above zero
pub positive_tested : (cs : List ℕ) → ((starts_with_minus cs ≡ false) × AreDigits (without_leading_sign cs) × (are_zeros (without_leading_sign cs) ≡ false)) ↔ IsPositive cs
positive_tested cs = (
  λ h. record { is_integer = read_integer cs h.1; unsigned = h.0; value = λ e. both_ways _ h.2 (value_zeros 0 (without_leading_sign cs) h.1.1 e).1 },
  λ p.
      let i = p.is_integer in
      let parts = integer_parts cs i in
      (sym parts.0 ∙ p.unsigned, integer_digits cs i, false_from_ne_true _ (λ z. p.value (zeros_value i.digits (subst (λ ds. IsTrue (are_zeros ds)) (sym parts.1) z)))),
)

-- decimals

abbrev pub is_decimal_char : ℕ → Bool
is_decimal_char c = is_ascii_digit c || c == 0x2E

-- digits are characters of a decimal
digits_decimal : (cs : List ℕ) → IsTrue (list_all is_ascii_digit cs) → IsTrue (list_all is_decimal_char cs)
digits_decimal cs h = all_weaker is_ascii_digit is_decimal_char (λ c. or_left (is_ascii_digit c) (c == 0x2E)) cs h

-- so are all of a part
pub decimal_chars : (cs : List ℕ) → IsDecimalPart cs → IsTrue (list_all is_decimal_char cs)
decimal_chars cs (whole d) = digits_decimal cs d.1
decimal_chars cs (pointed before after e d) =
    let parts = all_apart is_ascii_digit before after d.1 in
    subst (λ x. IsTrue (list_all is_decimal_char x)) (sym e) (all_joined is_decimal_char before (0x2E ∷ after) (digits_decimal before parts.0) (digits_decimal after parts.1))

-- the test of a decimal, by what stands after its sign
pub decimal_tested : (cs : List ℕ) → IsDecimalPart (without_leading_sign cs) ↔ IsDecimal cs
decimal_tested cs = (
  λ d. record { negative = starts_with_minus cs; digits = without_leading_sign cs; signed = sign_read cs; decimal = d },
  λ d. subst IsDecimalPart (signed_by is_decimal_char refl refl cs d.negative d.digits d.signed (decimal_chars d.digits d.decimal)).1 d.decimal,
)

-- a digit is no point
digit_no_point : (c : ℕ) → is_ascii_digit c ≡ true → is_other 0x2E c ≡ true
digit_no_point c h = grind (arith, nat_tests)

-- digits have no point
no_point : (before after : List ℕ) (p : ℕ → Bool) → p 0x2E ≡ false → IsTrue (list_all p (before ++ 0x2E ∷ after)) → ⊥
no_point before after p f h = both_ways _ f (and_parts (p 0x2E) (list_all p after) (all_apart p before (0x2E ∷ after) h).1).0

-- without a point a part is digits
pub unpointed_tested : (cs : List ℕ) → IsTrue (list_all (is_other 0x2E) cs) → AreDigits cs ↔ IsDecimalPart cs
unpointed_tested cs h = (whole, digits cs h)
  where
    digits : (cs : List ℕ) → IsTrue (list_all (is_other 0x2E) cs) → IsDecimalPart cs → AreDigits cs
    digits cs h (whole d) = d
    digits cs h (pointed before after e d) = absurd (no_point before after (is_other 0x2E) refl (subst (λ x. IsTrue (list_all (is_other 0x2E) x)) e h))

-- digits in two parts, of which the first has one

-- the test of both
pub joined_digits : (xs ys : List ℕ) → xs ≢ [] → (a b : Bool) → a ≡ list_all is_ascii_digit xs → b ≡ list_all is_ascii_digit ys → IsTrue (a && b) ↔ AreDigits (xs ++ ys)
joined_digits xs ys some a b e f = (
  λ h. let parts = and_parts a b h in (λ none. some (nothing xs none), all_joined is_ascii_digit xs ys (sym e ∙ parts.0) (sym f ∙ parts.1)),
  λ d. let parts = all_apart is_ascii_digit xs ys d.1 in and_from a b (e ∙ parts.0) (f ∙ parts.1),
)
  where
    nothing : (xs : List ℕ) → xs ++ ys ≡ [] → xs ≡ []
    nothing [] h = refl
    nothing (x ∷ xs) h = cc

-- those around the first point are all others
pub pointed_tested : (text front back : List ℕ) → IsCutAt 0x2E text front back → AreDigits (chars front ++ chars back) ↔ IsDecimalPart (chars text)
pointed_tested text front back cut = (pointed (chars front) (chars back) cut.parts, λ d. around (chars text) d cut.parts)
  where
    around : (cs : List ℕ) → IsDecimalPart cs → cs ≡ chars front ++ 0x2E ∷ chars back → AreDigits (chars front ++ chars back)
    around cs (whole d) e = absurd (no_point (chars front) (chars back) is_ascii_digit refl (subst (λ x. IsTrue (list_all is_ascii_digit x)) e d.1))
    around cs (pointed before after e d) f =
        let digits = (all_apart is_ascii_digit before after d.1).0 in
        let same : (before ≡ chars front) × (0x2E ∷ after ≡ 0x2E ∷ chars back) =
        same_front (is_other 0x2E) before (chars front) (0x2E ∷ after) (0x2E ∷ chars back) (all_weaker is_ascii_digit (is_other 0x2E) digit_no_point before digits) cut.first refl refl (sym e ∙ f) in
        let same_back : after ≡ chars back = cc same.1 in
        subst (λ x. AreDigits (x ++ chars back)) same.0 (subst (λ x. AreDigits (before ++ x)) same_back d)
