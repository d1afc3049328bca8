-- Patterns of values whose typed items are such as `make_item` gives.
use Rattle.std.specs.Prelude.{◌≡◌, ℕ, List, All}
use Rattle.std.specs.Str.{chars}
use Rattle.rng_dialect.specs.Dialect.{IsPattern}
use Rattle.rng_dialect.specs.declared.regex.Regex.{Regex}
use Rattle.rng_types.specs.declared.data_type.DataType.{DataType}
use Rattle.rng_types.specs.declared.facet.Facet.{Facet}
use Rattle.rng_types.specs.declared.facet.FacetName.TheVariants as facet
use Rattle.rng_values.specs.Formed.{IsFormedFacet}
use Rattle.rng_allows.specs.declared.value_pattern.ValuePattern.{ValuePattern, Choice', Typed, List', Row_of-ValuePattern, end_of-ValuePattern, more_of-ValuePattern}

-- it can't be that the text spells no pattern
abbrev pub IsPatternText : List ℕ → Type 0
IsPatternText cs = ((r : Regex) → IsPattern cs r → ⊥) → ⊥

-- a facet that the datatype takes, whose number is of its form, and whose pattern is one
pub record IsMade (k : DataType) (f : Facet) : Type 0 where
  pub formed : IsFormedFacet k f
  pub pattern : f.name ≡ facet.Pattern → IsPatternText (chars f.value)

abbrev pub AreMade : DataType → List Facet → Type 0
AreMade k facets = All (IsMade k) facets

abbrev mutual
  pub IsFormedValue : ValuePattern → Type 0
  IsFormedValue (Choice' x (more_of-ValuePattern p end_of-ValuePattern) y (more_of-ValuePattern q end_of-ValuePattern)) = IsFormedValue p × IsFormedValue q
  IsFormedValue (Typed k facets) = AreMade k facets
  IsFormedValue (List' shape leaves pat) = AreFormedValues leaves
  IsFormedValue value = Unit {0}

  pub AreFormedValues : {n : _} → Row_of-ValuePattern n → Type 0
  AreFormedValues end_of-ValuePattern = Unit {0}
  AreFormedValues (more_of-ValuePattern value values) = IsFormedValue value × AreFormedValues values
