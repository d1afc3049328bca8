-- Digits, each of one byte, and the numbers that facets say.
use Rattle.std.proofs.Common.{◌≡◌, ◌<◌, ◌↔◌, ℕ, true, List, IsTrue, IsUtf8, refl, sym, ◌∙◌, subst, arith}
use Rattle.std.proofs.lemmas.Bool.Decides.{nat_tests}
use Rattle.std.specs.Char.{is_ascii_digit}
use Rattle.std.specs.List.{list_all}
use Rattle.std.specs.Str.{chars}
use Rattle.std.specs.Str.Parse.{starts_with_minus, without_leading_sign}
use Rattle.rng_values.specs.Facets.{AreFewDigits, IsBound}
use Rattle.rng_values.specs.Lexical.{IsInteger}
use Rattle.rng_values.proofs.Numerals.{integer_digits, sign_read, signed_by}
use Rattle.rng_values.proofs.Tags.{chars_kept}

-- a digit is of ASCII
digit_low : (c : ℕ) → is_ascii_digit c ≡ true → c < 128
digit_low c h = grind (arith, nat_tests)

-- so digits are the bytes of their text
pub digit_bytes : (text : List ℕ) → IsUtf8 text → IsTrue (list_all is_ascii_digit (chars text)) → chars text ≡ text
digit_bytes = chars_kept is_ascii_digit digit_low

-- and the bytes behind the sign of a whole number are its digits
pub bytes_behind : (cs bytes : List ℕ) → IsInteger cs → IsUtf8 bytes → chars bytes ≡ without_leading_sign cs → bytes ≡ without_leading_sign cs
bytes_behind cs bytes i u e = sym (digit_bytes bytes u (rw e (integer_digits cs i).1)) ∙ e

-- a text is a bound by what stands behind its sign
pub bound_tested : (cs : List ℕ) → AreFewDigits 18 (without_leading_sign cs) ↔ IsBound cs
bound_tested cs = (
  λ h. record { negative = starts_with_minus cs; digits = without_leading_sign cs; signed = sign_read cs; few = h },
  λ h. subst (AreFewDigits 18) (signed_by is_ascii_digit refl refl cs h.negative h.digits h.signed h.few.digits).1 h.few,
)
