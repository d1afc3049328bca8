-- No text with white space in it has a form, but for the four datatypes of any text.
use Rattle.std.proofs.Common.{◌≡◌, ℕ, ◌↔◌, Bool, true, List, refl, arith, IsTrue}
use Rattle.std.proofs.lemmas.Bool.{or_left}
use Rattle.std.proofs.lemmas.Bool.Decides.{nat_tests}
use Rattle.std.specs.Char.{is_ascii_digit}
use Rattle.std.specs.List.{list_all}
use Rattle.odd_tokens.specs.Characters.{is_name_char, is_name_start}
use Rattle.odd_tokens.proofs.AttributesLexed.{ncname_chars}
use Rattle.odd_tokens.proofs.Characters.{all_weaker}
use Rattle.rng_types.proofs.Spaced.{no_space}
use Rattle.rng_types.specs.declared.data_type.DataType.{DataType}
use Rattle.rng_types.specs.declared.data_type.DataType.TheVariants as kind
use Rattle.rng_values.specs.Lexical.{Fits, HasForm, HasSign, IsBoolean, IsDecimal, IsInteger, IsLanguage, is_nmtoken_char, minus, none, plus, yes, no, one, zero}
use Rattle.rng_values.specs.Trimmed.{IsTrimmed}
use Rattle.rng_values.proofs.Naming.{name_tested}
use Rattle.rng_values.proofs.Numerals.{decimal_chars, is_decimal_char}
use Rattle.rng_values.proofs.Tags.{is_language_char, language_chars}
use Rattle.rng_values.proofs.Trimming.{trimmed_fits}

-- the characters of names
nmtoken_spaceless : (c : ℕ) → is_nmtoken_char c ≡ true → no_space c ≡ true
unfolding is_name_start is_name_char
nmtoken_spaceless c h = grind (arith, nat_tests)

-- those of languages
language_spaceless : (c : ℕ) → is_language_char c ≡ true → no_space c ≡ true
language_spaceless c h = grind (arith, nat_tests)

-- those of integers
digit_spaceless : (c : ℕ) → is_ascii_digit c ≡ true → no_space c ≡ true
digit_spaceless c h = grind (arith, nat_tests)

-- those of decimals
decimal_spaceless : (c : ℕ) → is_decimal_char c ≡ true → no_space c ≡ true
decimal_spaceless c h = grind (arith, nat_tests)

-- a text without white space
abbrev IsSpaceless : List ℕ → Type 0
IsSpaceless cs = IsTrue (list_all no_space cs)

-- a sign is none
sign_spaceless : (cs : List ℕ) (negative : Bool) (rest : List ℕ) → HasSign cs negative rest → IsSpaceless rest → IsSpaceless cs
sign_spaceless cs negative rest none h = h
sign_spaceless cs negative rest plus h = h
sign_spaceless cs negative rest minus h = h

-- each form in turn
nmtokens : (cs : List ℕ) → HasForm kind.Nmtoken cs → IsSpaceless cs
nmtokens cs h = all_weaker is_nmtoken_char no_space nmtoken_spaceless cs h.1

names : (cs : List ℕ) → HasForm kind.Name cs → IsSpaceless cs
names cs h = nmtokens cs ((name_tested cs).1 h).1

ncnames : (cs : List ℕ) → HasForm kind.NcName cs → IsSpaceless cs
ncnames cs h = all_weaker is_name_char no_space (λ c k. nmtoken_spaceless c (or_left (is_name_char c) _ k)) cs (ncname_chars cs h)

languages : (cs : List ℕ) → IsLanguage cs → IsSpaceless cs
languages cs h = all_weaker is_language_char no_space language_spaceless cs (language_chars cs h)

booleans : (cs : List ℕ) → IsBoolean cs → IsSpaceless cs
booleans cs yes = refl
booleans cs no = refl
booleans cs one = refl
booleans cs zero = refl

pub integers : (cs : List ℕ) → IsInteger cs → IsSpaceless cs
integers cs i = sign_spaceless cs i.negative i.digits i.signed (all_weaker is_ascii_digit no_space digit_spaceless i.digits i.are_digits.1)

decimals : (cs : List ℕ) → IsDecimal cs → IsSpaceless cs
decimals cs d = sign_spaceless cs d.negative d.digits d.signed (all_weaker is_decimal_char no_space decimal_spaceless d.digits (decimal_chars d.digits d.decimal))

-- so the trimmed text has the form just where the treated one has
pub trimmed_form : (k : DataType) (cs trimmed : List ℕ) → IsTrimmed cs trimmed → HasForm k trimmed ↔ Fits k cs
trimmed_form kind.Nmtoken cs trimmed t = trimmed_fits (HasForm kind.Nmtoken) cs trimmed nmtokens t
trimmed_form kind.Name cs trimmed t = trimmed_fits (HasForm kind.Name) cs trimmed names t
trimmed_form kind.NcName cs trimmed t = trimmed_fits (HasForm kind.NcName) cs trimmed ncnames t
trimmed_form kind.Id cs trimmed t = trimmed_fits (HasForm kind.Id) cs trimmed ncnames t
trimmed_form kind.Idref cs trimmed t = trimmed_fits (HasForm kind.Idref) cs trimmed ncnames t
trimmed_form kind.Language cs trimmed t = trimmed_fits (HasForm kind.Language) cs trimmed languages t
trimmed_form kind.Boolean cs trimmed t = trimmed_fits (HasForm kind.Boolean) cs trimmed booleans t
trimmed_form kind.Integer cs trimmed t = trimmed_fits (HasForm kind.Integer) cs trimmed integers t
trimmed_form kind.NonNegativeInteger cs trimmed t = trimmed_fits (HasForm kind.NonNegativeInteger) cs trimmed (λ xs n. integers xs n.is_integer) t
trimmed_form kind.PositiveInteger cs trimmed t = trimmed_fits (HasForm kind.PositiveInteger) cs trimmed (λ xs n. integers xs n.is_integer) t
trimmed_form kind.Decimal cs trimmed t = trimmed_fits (HasForm kind.Decimal) cs trimmed decimals t
trimmed_form k cs trimmed t = (λ _. tt, λ _. tt)
