-- Which texts are of a datatype, by their characters after white space is treated (XML Schema, Part 2, section 3; names as in Namespaces in XML 1.0).
use Rattle.std.specs.Prelude.{◌≡◌, ◌≢◌, ◌≤◌, ◌⊎◌, ◌||◌, ◌==◌, ℕ, Bool, true, false, List, [], ◌∷◌, ◌++◌, codes, length, IsTrue}
use Rattle.std.specs.Char.{is_ascii_alphabetic, is_ascii_alphanumeric, is_ascii_digit}
use Rattle.std.specs.List.{list_all}
use Rattle.std.specs.Str.Parse.{digits_value}
use Rattle.odd_tokens.specs.Characters.{is_name_char, is_name_start, is_ncname}
use Rattle.rng_values.specs.Treated.{treated}
use Rattle.rng_types.specs.declared.data_type.DataType.{DataType}
use Rattle.rng_types.specs.declared.data_type.DataType.TheVariants as kind

-- 3.3.4 and 3.3.6: the colon is one of the characters of a name
abbrev pub is_nmtoken_char : ℕ → Bool
is_nmtoken_char c = is_name_char c || c == 0x3A

-- a sign and digits
pub data HasSign : List ℕ → (negative : Bool) → List ℕ → Type 0 where
  none : {digits : List ℕ} → HasSign digits false digits
  plus : {digits : List ℕ} → HasSign (0x2B ∷ digits) false digits
  minus : {digits : List ℕ} → HasSign (0x2D ∷ digits) true digits

-- one digit or more
abbrev pub AreDigits : List ℕ → Type 0
AreDigits cs = (cs ≢ []) × IsTrue (list_all is_ascii_digit cs)

-- 3.3.13
pub record IsInteger (cs : List ℕ) : Type 0 where
  pub negative : Bool
  pub digits : List ℕ
  pub signed : HasSign cs negative digits
  pub are_digits : AreDigits digits

-- 3.3.20: its value is not below zero, which `-0` is not
pub record IsNonNegative (cs : List ℕ) : Type 0 where
  pub is_integer : IsInteger cs
  pub value : (is_integer.negative ≡ false) ⊎ (digits_value 10 is_integer.digits ≡ 0)

-- 3.3.25: its value is above zero
pub record IsPositive (cs : List ℕ) : Type 0 where
  pub is_integer : IsInteger cs
  pub unsigned : is_integer.negative ≡ false
  pub value : digits_value 10 is_integer.digits ≢ 0

-- 3.2.3: digits, of which some may stand after a point, and there is one at least
pub data IsDecimalPart : List ℕ → Type 0 where
  whole : {cs : List ℕ} → AreDigits cs → IsDecimalPart cs
  pointed : {cs : List ℕ} (before after : List ℕ) → cs ≡ before ++ 0x2E ∷ after → AreDigits (before ++ after) → IsDecimalPart cs

pub record IsDecimal (cs : List ℕ) : Type 0 where
  pub negative : Bool
  pub digits : List ℕ
  pub signed : HasSign cs negative digits
  pub decimal : IsDecimalPart digits

-- 1 to 8 of such characters
pub record AreFew (is : ℕ → Bool) (cs : List ℕ) : Type 0 where
  pub some : 1 ≤ length cs
  pub few : length cs ≤ 8
  pub all : IsTrue (list_all is cs)

-- 3.3.3: letters, and then any number of parts of letters and digits, each after a `-`
pub data AreSubtags : List ℕ → Type 0 where
  none : AreSubtags []
  more : {cs : List ℕ} (part rest : List ℕ) → cs ≡ 0x2D ∷ (part ++ rest) → AreFew is_ascii_alphanumeric part → AreSubtags rest → AreSubtags cs

pub record IsLanguage (cs : List ℕ) : Type 0 where
  pub first : List ℕ
  pub rest : List ℕ
  pub parts : cs ≡ first ++ rest
  pub letters : AreFew is_ascii_alphabetic first
  pub subtags : AreSubtags rest

-- 3.2.2
pub data IsBoolean : List ℕ → Type 0 where
  yes : IsBoolean (codes "true")
  no : IsBoolean (codes "false")
  one : IsBoolean (codes "1")
  zero : IsBoolean (codes "0")

-- the characters of a text after white space is treated have the form of the datatype
abbrev pub HasForm : DataType → List ℕ → Type 0
HasForm kind.Nmtoken cs = (cs ≢ []) × IsTrue (list_all is_nmtoken_char cs)
HasForm kind.Name cs = IsName cs
  where
    IsName : List ℕ → Type 0
    IsName [] = ⊥
    IsName (c ∷ cs) = IsTrue (is_name_start c || c == 0x3A) × IsTrue (list_all is_nmtoken_char cs)
HasForm kind.NcName cs = IsTrue (is_ncname cs)
HasForm kind.Id cs = IsTrue (is_ncname cs)
HasForm kind.Idref cs = IsTrue (is_ncname cs)
HasForm kind.Language cs = IsLanguage cs
HasForm kind.Boolean cs = IsBoolean cs
HasForm kind.Integer cs = IsInteger cs
HasForm kind.NonNegativeInteger cs = IsNonNegative cs
HasForm kind.PositiveInteger cs = IsPositive cs
HasForm kind.Decimal cs = IsDecimal cs
HasForm k cs = Unit {0}

-- the text is of the datatype
abbrev pub Fits : DataType → List ℕ → Type 0
Fits k cs = HasForm k (treated k cs)
