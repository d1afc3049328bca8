-- Plain characters, and the bytes that they are written as.
use Rattle.std.proofs.Common.{◌≡◌, ◌≢◌, ℕ, ◌≤◌, true, false, ◌==◌, List, arith, IsUtf8}
use Rattle.std.proofs.lemmas.Bool.{and_parts}
use Rattle.std.proofs.lemmas.Bool.Decides.{nat_tests}
use Rattle.std.proofs.lemmas.Str.{encodes-chars}
use Rattle.std.specs.List.{list_all}
use Rattle.std.specs.Str.{chars}
use Rattle.odd_tokens.specs.Characters.{is_char}
use Rattle.odd_reader.specs.Stepping.{is_plain, is_plain_byte, IsPlain}
use Rattle.odd_reader.proofs.PlainBytes.{chars_pass}

pub plain_is_char : (c : ℕ) → is_plain c ≡ true → is_char c ≡ true
plain_is_char c h = (and_parts (is_char c) _ h).0

pub not_less : (c : ℕ) → is_plain c ≡ true → c ≢ 0x3C
not_less c h e = grind (arith, nat_tests)

pub not_ampersand : (c : ℕ) → is_plain c ≡ true → c ≢ 0x26
not_ampersand c h e = grind (arith, nat_tests)

pub no_return : (c : ℕ) → is_plain c ≡ true → (c == 0xD) ≡ false
no_return c h = grind (arith, nat_tests)

pub no_bracket : (c : ℕ) → is_plain c ≡ true → (c == 0x5D) ≡ false
no_bracket c h = grind (arith, nat_tests)

high_plain : (c : ℕ) → 128 ≤ c → is_char c ≡ true → is_plain c ≡ true
high_plain c l h = grind (arith, nat_tests)

-- a text whose bytes are those of plain characters
pub plain_text : (bytes : List ℕ) → IsUtf8 bytes → list_all is_plain_byte bytes ≡ true → IsPlain bytes
plain_text bytes u h = record { characters = chars bytes; all_plain = chars_pass is_plain high_plain bytes u h; written = encodes-chars bytes u }
