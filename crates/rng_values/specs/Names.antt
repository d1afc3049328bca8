-- The names of datatypes and facets (XML Schema, Part 2, sections 3 and 4.3), compared exactly.
use Rattle.std.specs.Prelude.{ℕ, List, [], ◌∷◌, Option, find, codes}
use Rattle.std.specs.Option.{option_map}
use Rattle.odd_text.specs.Same.{is_same}
use Rattle.rng_types.specs.declared.data_type.DataType.{DataType}
use Rattle.rng_types.specs.declared.data_type.DataType.TheVariants as kind
use Rattle.rng_types.specs.declared.facet.FacetName.{FacetName}
use Rattle.rng_types.specs.declared.facet.FacetName.TheVariants as facet

abbrev pub type_names : List (List ℕ × DataType)
type_names =
    (codes "string", kind.String) ∷ (codes "normalizedString", kind.NormalizedString) ∷ (codes "token", kind.Token) ∷ (codes "NMTOKEN", kind.Nmtoken)
    ∷ (codes "Name", kind.Name) ∷ (codes "NCName", kind.NcName) ∷ (codes "ID", kind.Id) ∷ (codes "IDREF", kind.Idref) ∷ (codes "language", kind.Language)
    ∷ (codes "anyURI", kind.AnyUri) ∷ (codes "boolean", kind.Boolean) ∷ (codes "integer", kind.Integer) ∷ (codes "nonNegativeInteger", kind.NonNegativeInteger)
    ∷ (codes "positiveInteger", kind.PositiveInteger) ∷ (codes "decimal", kind.Decimal) ∷ []

abbrev pub facet_names : List (List ℕ × FacetName)
facet_names =
    (codes "length", facet.Length) ∷ (codes "minLength", facet.MinLength) ∷ (codes "maxLength", facet.MaxLength) ∷ (codes "minInclusive", facet.MinInclusive)
    ∷ (codes "maxInclusive", facet.MaxInclusive) ∷ (codes "pattern", facet.Pattern) ∷ []

-- what has the name
abbrev pub named : {A : Type 0} → List (List ℕ × A) → List ℕ → Option A
named names word = option_map (λ entry. entry.1) (find (λ entry. is_same entry.0 word) names)
