-- Facets (XML Schema, Part 2, section 4.3): which datatype takes which, what their values may be, and which texts meet them.
use Rattle.std.specs.Prelude.{◌≡◌, ◌≢◌, ◌≤◌, ℕ, Bool, true, false, List, [], length, IsTrue}
use Rattle.std.specs.Char.{is_ascii_digit}
use Rattle.std.specs.List.{list_all}
use Rattle.std.specs.Str.{chars}
use Rattle.std.specs.Str.Parse.{digits_value}
use Rattle.rng_dialect.specs.Dialect.{SpellsRegex}
use Rattle.rng_values.specs.Lexical.{AreDigits, HasSign}
use Rattle.rng_dialect.specs.Matching.{Matches}
use Rattle.rng_types.specs.declared.data_type.DataType.{DataType}
use Rattle.rng_types.specs.declared.data_type.DataType.TheVariants as kind
use Rattle.rng_types.specs.declared.facet.Facet.{Facet}
use Rattle.rng_types.specs.declared.facet.FacetName.{FacetName}
use Rattle.rng_types.specs.declared.facet.FacetName.TheVariants as facet
use Rattle.rng_dialect.specs.declared.regex.Regex.{Regex}

-- a datatype whose characters may be counted, and one of whole numbers
abbrev pub has_length : DataType → Bool
has_length kind.Boolean = false
has_length kind.Integer = false
has_length kind.NonNegativeInteger = false
has_length kind.PositiveInteger = false
has_length kind.Decimal = false
has_length k = true

abbrev pub has_order : DataType → Bool
has_order kind.Integer = true
has_order kind.NonNegativeInteger = true
has_order kind.PositiveInteger = true
has_order k = false

-- every datatype takes patterns
abbrev pub takes_facet : DataType → FacetName → Bool
takes_facet k facet.Pattern = true
takes_facet k facet.MinInclusive = has_order k
takes_facet k facet.MaxInclusive = has_order k
takes_facet k name = has_length k

-- so many digits at most, and one at least
pub record AreFewDigits (most : ℕ) (cs : List ℕ) : Type 0 where
  pub some : cs ≢ []
  pub few : length cs ≤ most
  pub digits : IsTrue (list_all is_ascii_digit cs)

-- a bound has a sign or none, and 1 to 18 digits
pub record IsBound (cs : List ℕ) : Type 0 where
  pub negative : Bool
  pub digits : List ℕ
  pub signed : HasSign cs negative digits
  pub few : AreFewDigits 18 digits

-- the value of a facet is a number of its form; of a pattern none is asked
abbrev pub IsNumberOf : FacetName → List ℕ → Type 0
IsNumberOf facet.Pattern cs = Unit {0}
IsNumberOf facet.MinInclusive cs = IsBound cs
IsNumberOf facet.MaxInclusive cs = IsBound cs
IsNumberOf name cs = AreFewDigits 9 cs

-- one whole number is not above another
abbrev pub IsUpTo : (negative : Bool) → ℕ → (others : Bool) → ℕ → Type 0
IsUpTo true n true m = m ≤ n
IsUpTo true n false m = Unit {0}
IsUpTo false n true m = (n ≡ 0) × (m ≡ 0)
IsUpTo false n false m = n ≤ m

-- what two texts of whole numbers say is in this order
pub record AreInOrder (cs ds : List ℕ) : Type 0 where
  pub negative : Bool
  pub others : Bool
  pub digits : List ℕ
  pub other_digits : List ℕ
  pub signed : HasSign cs negative digits
  pub other_signed : HasSign ds others other_digits
  pub are_digits : AreDigits digits
  pub other_are_digits : AreDigits other_digits
  pub in_order : IsUpTo negative (digits_value 10 digits) others (digits_value 10 other_digits)

-- the characters of a treated text meet the facet
abbrev pub MeetsBy : FacetName → (value : List ℕ) → List ℕ → Type 0
MeetsBy facet.Length value cs = length cs ≡ digits_value 10 value
MeetsBy facet.MinLength value cs = digits_value 10 value ≤ length cs
MeetsBy facet.MaxLength value cs = length cs ≤ digits_value 10 value
MeetsBy facet.MinInclusive value cs = AreInOrder value cs
MeetsBy facet.MaxInclusive value cs = AreInOrder cs value
MeetsBy facet.Pattern value cs = (r : Regex) × SpellsRegex value r × Matches r cs

abbrev pub Meets : Facet → List ℕ → Type 0
Meets f cs = MeetsBy f.name (chars f.value) cs
