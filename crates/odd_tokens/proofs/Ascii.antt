-- Texts of characters below 128, texts whose characters are those of XML, and NCNames.
use Rattle.std.proofs.Common.{◌≡◌, ℕ, ◌<◌, Bool, true, false, ◌||◌, ◌==◌, ◌&&◌, List, [], ◌∷◌, refl, arith, IsTrue, ◌+◌, if◌then◌else◌, map, ap₂, ◌↔◌, ◌++◌, length, IsUtf8, encode_utf8, sym, ap, ◌∙◌}
use Rattle.std.proofs.lemmas.Bool.{and_parts, and_from, ltb-true}
use Rattle.std.proofs.lemmas.Bool.Decides.{nat_tests}
use Rattle.std.proofs.lemmas.List.{nil_from_length}
use Rattle.std.proofs.lemmas.Str.{encode_ascii, chars-nil, chars_from_encodes, encodes-chars, chars_past_char}
use Rattle.std.specs.Char.{to_ascii_lowercase}
use Rattle.std.specs.List.{list_all}
use Rattle.std.specs.Prelude.{nat_lt}
use Rattle.std.specs.Str.{encode_utf8_all, chars}
use Rattle.odd_tokens.proofs.AttributesLexed.{ncname_chars}
use Rattle.odd_tokens.proofs.Characters.{all_weaker, name_char_is_legal}
use Rattle.odd_tokens.specs.Characters.{IsNCName, is_within, is_name_start, is_name_char, is_ncname, is_char, IsLegal}

-- a text of characters below 128 is its bytes
pub ascii_text : (p : ℕ → Bool) → ((c : ℕ) → p c ≡ true → c < 128) → (cs : List ℕ) → list_all p cs ≡ true → encode_utf8_all cs ≡ cs
ascii_text p low [] h = refl
ascii_text p low (c ∷ cs) h =
    let e = encode_ascii c (low c (and_parts (p c) (list_all p cs) h).0) in
    rw (e, ascii_text p low cs (and_parts (p c) (list_all p cs) h).1) refl

-- a text that is written out
pub ascii_codes : (cs : List ℕ) → list_all (λ c. nat_lt c 128) cs ≡ true → encode_utf8_all cs ≡ cs
ascii_codes cs h = ascii_text (λ c. nat_lt c 128) (λ c. ltb-true c 128) cs h

-- names

abbrev is_ascii_name_start : ℕ → Bool
is_ascii_name_start c = is_within 0x41 0x5A c || c == 0x5F || is_within 0x61 0x7A c

abbrev is_ascii_name_char : ℕ → Bool
is_ascii_name_char c = is_ascii_name_start c || c == 0x2D || c == 0x2E || is_within 0x30 0x39 c

abbrev pub is_ascii_name : List ℕ → Bool
is_ascii_name [] = false
is_ascii_name (c ∷ cs) = is_ascii_name_start c && list_all is_ascii_name_char cs

ascii_start : (c : ℕ) → is_ascii_name_start c ≡ true → is_name_start c ≡ true
unfolding is_name_start
ascii_start c h = grind (arith, nat_tests)

ascii_char : (c : ℕ) → is_ascii_name_char c ≡ true → is_name_char c ≡ true
unfolding is_name_char
ascii_char c h = grind (arith, nat_tests, ascii_start)

char_low : (c : ℕ) → is_ascii_name_char c ≡ true → c < 128
char_low c h = grind (arith, nat_tests)

start_is_char : (c : ℕ) → is_ascii_name_start c ≡ true → is_ascii_name_char c ≡ true
start_is_char c h = rw h refl

name_chars : (name : List ℕ) → IsTrue (is_ascii_name name) → list_all is_ascii_name_char name ≡ true
name_chars [] h = cc
name_chars (c ∷ cs) h = and_from _ _ (start_is_char c (and_parts _ _ h).0) (and_parts _ _ h).1

pub ascii_name : (name : List ℕ) → IsTrue (is_ascii_name name) → encode_utf8_all name ≡ name
ascii_name name h = ascii_text is_ascii_name_char char_low name (name_chars name h)

pub ascii_ncname : (name : List ℕ) → IsTrue (is_ascii_name name) → IsTrue (is_ncname name)
ascii_ncname [] h = cc
ascii_ncname (c ∷ cs) h = and_from _ _ (ascii_start c (and_parts _ _ h).0) (all_weaker is_ascii_name_char is_name_char ascii_char cs (and_parts _ _ h).1)

-- a name of ASCII is an NCName
pub is_name : (name : List ℕ) → is_ascii_name name ≡ true → IsNCName name
is_name name h = (name, ascii_name name h, ascii_ncname name h)

-- letters of any case

abbrev pub lowered : ℕ → ℕ
lowered c = if is_within 0x41 0x5A c then c + 0x20 else c

pub lowered-ascii : (c : ℕ) → lowered c ≡ to_ascii_lowercase c
lowered-ascii c = grind (arith, nat_tests)

pub all_lowered : (cs : List ℕ) → map lowered cs ≡ map to_ascii_lowercase cs
all_lowered [] = refl
all_lowered (c ∷ cs) = ap₂ (λ x y. x ∷ y) (lowered-ascii c) (all_lowered cs)

-- a name

pub ncname_legal : (bytes : List ℕ) → IsNCName bytes → IsLegal bytes
ncname_legal bytes n = (n.0, n.1, all_weaker is_name_char is_char name_char_is_legal n.0 (ncname_chars n.0 n.2))

-- ASCII from space to tilde

abbrev pub is_printable : List ℕ → Bool
is_printable cs = list_all (λ c. is_within 0x20 0x7E c) cs

printable_low : (c : ℕ) → is_within 0x20 0x7E c ≡ true → c < 128
printable_low c h = grind (arith, nat_tests)

printable_legal : (c : ℕ) → is_within 0x20 0x7E c ≡ true → is_char c ≡ true
unfolding is_char
printable_legal c h = grind (arith, nat_tests)

pub ascii_legal : (bytes : List ℕ) → IsTrue (is_printable bytes) → IsLegal bytes
ascii_legal bytes h = (bytes, ascii_text (λ c. is_within 0x20 0x7E c) printable_low bytes h, all_weaker (λ c. is_within 0x20 0x7E c) is_char printable_legal bytes h)

-- a test of the characters decides whether the bytes are an NCName
pub decided_by_chars : (bytes : List ℕ) (r : Bool) → IsUtf8 bytes → r ≡ is_ncname (chars bytes) → IsTrue r ↔ IsNCName bytes
decided_by_chars bytes r u e =
    (λ h. (chars bytes, encodes-chars bytes u, sym e ∙ h), λ n. e ∙ ap is_ncname (sym (chars_from_encodes n.0 bytes u n.1)) ∙ n.2)

-- the empty text is none
pub none_empty : (bytes : List ℕ) → IsUtf8 bytes → length bytes ≡ 0 → IsTrue false ↔ IsNCName bytes
none_empty bytes u h = decided_by_chars bytes false u (sym (ap (λ bs. is_ncname (chars bs)) (nil_from_length bytes h) ∙ ap is_ncname chars-nil))

-- the test of a text that begins with a character
pub first_tested : (bytes rest : List ℕ) (c : ℕ) → IsUtf8 bytes → bytes ≡ encode_utf8 c ++ rest
    → is_ncname (chars bytes) ≡ (is_name_start c && list_all is_name_char (chars rest))
first_tested bytes rest c u e = ap is_ncname (chars_past_char bytes rest c u e)
