-- The typed item that a datatype's name and facets give, and what they break: rule 1, a number is not of its form; 2, an unknown type or facet, a facet
-- on a datatype that does not take it, or a pattern that is none; 4, a facet twice.
use Rattle.std.specs.Prelude.{◌≡◌, ℕ, false, List, ◌∷◌, ◌++◌, Some, None, IsTrue, nat_lt}
use Rattle.std.specs.List.{Contains}
use Rattle.std.specs.Str.{chars}
use Rattle.rng_dialect.specs.Dialect.{IsPattern}
use Rattle.rng_values.specs.Facets.{IsNumberOf, takes_facet}
use Rattle.rng_values.specs.Names.{facet_names, named, type_names}
use Rattle.rng_types.specs.declared.data_type.DataType.{DataType}
use Rattle.rng_types.specs.declared.facet.Facet.{Facet}
use Rattle.rng_types.specs.declared.facet.FacetName.{FacetName}
use Rattle.rng_types.specs.declared.facet.FacetName.TheVariants as facet
use Rattle.rng_types.specs.declared.facet.FacetText.{FacetText}
use Rattle.rng_types.specs.declared.item.Item.{Item}
use Rattle.rng_types.specs.declared.item.Item.TheVariants as items
use Rattle.rng_dialect.specs.declared.regex.Regex.{Regex}

-- what one facet breaks, whatever the datatype
pub data FacetFault (f : FacetText) : ℕ → Type 0 where
  malformed : {name : FacetName} → named facet_names f.name ≡ Some name → (IsNumberOf name (chars f.value) → ⊥) → FacetFault f 1
  unknown : named facet_names f.name ≡ None → FacetFault f 2
  no_pattern : named facet_names f.name ≡ Some facet.Pattern → ((r : Regex) → IsPattern (chars f.value) r → ⊥) → FacetFault f 2

pub data ItemFault (name : List ℕ) (facets : List FacetText) : ℕ → Type 0 where
  unknown : named type_names name ≡ None → ItemFault name facets 2
  of_facet : {rule : ℕ} (f : FacetText) → Contains facets f → FacetFault f rule → ItemFault name facets rule
  not_taken : {k : DataType} {of : FacetName} (f : FacetText) → Contains facets f → named type_names name ≡ Some k → named facet_names f.name ≡ Some of
      → takes_facet k of ≡ false → ItemFault name facets 2
  twice : {of : FacetName} (before between after : List FacetText) (f g : FacetText) → facets ≡ before ++ f ∷ (between ++ g ∷ after)
      → named facet_names f.name ≡ Some of → named facet_names g.name ≡ Some of → ItemFault name facets 4

-- the facet that a text of one says
pub record IsFacetOf (f : FacetText) (made : Facet) : Type 0 where
  pub name : named facet_names f.name ≡ Some made.name
  pub value : made.value ≡ f.value

-- facets stand in order of their names
abbrev pub place_of : FacetName → ℕ
place_of facet.Length = 0
place_of facet.MaxInclusive = 1
place_of facet.MaxLength = 2
place_of facet.MinInclusive = 3
place_of facet.MinLength = 4
place_of facet.Pattern = 5

-- the item: the datatype of the name, and the facets in order of name
pub record IsItemOf (name : List ℕ) (facets : List FacetText) (item : Item) : Type 0 where
  pub kind : DataType
  pub is_kind : named type_names name ≡ Some kind
  pub made : List Facet
  pub item_is : item ≡ items.Typed kind made
  pub rising : (before after : List Facet) (f g : Facet) → made ≡ before ++ f ∷ (g ∷ after) → IsTrue (nat_lt (place_of f.name) (place_of g.name))
  pub each : (f : FacetText) → Contains facets f → (g : Facet) × Contains made g × IsFacetOf f g
  pub none_else : (g : Facet) → Contains made g → (f : FacetText) × Contains facets f × IsFacetOf f g
