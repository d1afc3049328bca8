-- The texts of a boolean.
use Rattle.std.proofs.Common.{◌≡◌, ℕ, ◌≢◌, List, refl, sym, ◌∙◌, subst, IsUtf8}
use Rattle.std.proofs.lemmas.Str.{encodes-chars}
use Rattle.std.specs.Prelude.{codes}
use Rattle.std.specs.Str.{chars, encode_utf8_all}
use Rattle.odd_tokens.proofs.Ascii.{ascii_codes}
use Rattle.rng_values.specs.Lexical.{IsBoolean, yes, no, one, zero}

-- each of them is one

true_read : IsBoolean (chars (codes "true"))
unfolding chars
true_read = yes

false_read : IsBoolean (chars (codes "false"))
unfolding chars
false_read = no

one_read : IsBoolean (chars (codes "1"))
unfolding chars
one_read = one

zero_read : IsBoolean (chars (codes "0"))
unfolding chars
zero_read = zero

pub is_true : (text : List ℕ) → text ≡ codes "true" → IsBoolean (chars text)
is_true text e = subst (λ t. IsBoolean (chars t)) (sym e) true_read

pub is_false : (text : List ℕ) → text ≡ codes "false" → IsBoolean (chars text)
is_false text e = subst (λ t. IsBoolean (chars t)) (sym e) false_read

pub is_one : (text : List ℕ) → text ≡ codes "1" → IsBoolean (chars text)
is_one text e = subst (λ t. IsBoolean (chars t)) (sym e) one_read

pub is_zero : (text : List ℕ) → text ≡ codes "0" → IsBoolean (chars text)
is_zero text e = subst (λ t. IsBoolean (chars t)) (sym e) zero_read

-- and no other
pub no_boolean : (text : List ℕ) → IsUtf8 text → text ≢ codes "true" → text ≢ codes "false" → text ≢ codes "1" → text ≢ codes "0" → IsBoolean (chars text) → ⊥
no_boolean text u a b c d h = among (chars text) h (sym (encodes-chars text u))
  where
    among : (cs : List ℕ) → IsBoolean cs → text ≡ encode_utf8_all cs → ⊥
    among cs yes e = a (e ∙ ascii_codes (codes "true") refl)
    among cs no e = b (e ∙ ascii_codes (codes "false") refl)
    among cs one e = c (e ∙ ascii_codes (codes "1") refl)
    among cs zero e = d (e ∙ ascii_codes (codes "0") refl)
