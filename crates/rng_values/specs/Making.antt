-- What the calls that make an item test of one facet, and the facets that they give.
use Rattle.std.specs.Prelude.{◌≡◌, ◌==◌, ℕ, Bool, false, List, [], ◌∷◌, Option, Some, None, count_by, nat_le}
use Rattle.std.specs.List.{find, flat_map, list_any}
use Rattle.std.specs.Option.{option_map, option_to_list}
use Rattle.rng_values.specs.Facets.{takes_facet}
use Rattle.rng_values.specs.Formed.{IsFormedItem}
use Rattle.rng_values.specs.Items.{FacetFault, IsItemOf, place_of}
use Rattle.rng_values.specs.Names.{facet_names, named, type_names}
use Rattle.rng_types.specs.declared.data_type.DataType.{DataType}
use Rattle.rng_types.specs.declared.facet.Facet.{Facet}
use Rattle.rng_types.specs.declared.facet.FacetName.{FacetName}
use Rattle.rng_types.specs.declared.facet.FacetName.TheVariants as facet
use Rattle.rng_types.specs.declared.facet.FacetText.{FacetText}
use Rattle.rng_types.specs.declared.item.Item.{Item}
use Rattle.rng_types.specs.declared.item.Item.TheVariants as items

-- rule 2 of one facet on a known datatype
pub data IsUntaken (k : DataType) (f : FacetText) : Type 0 where
  broken : FacetFault f 2 → IsUntaken k f
  not_taken : {of : FacetName} → named facet_names f.name ≡ Some of → takes_facet k of ≡ false → IsUntaken k f

-- the names are the same
abbrev pub is_name : FacetName → Option FacetName → Bool
is_name of None = false
is_name of (Some name) = place_of name == place_of of

-- the facet has the name
abbrev pub is_of : FacetName → FacetText → Bool
is_of of f = is_name of (named facet_names f.name)

-- the first facet of a name
abbrev pub first_of : List FacetText → FacetName → List Facet
first_of facets of = option_to_list (option_map (λ f. record { name = of; value = f.value }) (find (is_of of) facets))

abbrev pub all_names : List FacetName
all_names = facet.Length ∷ facet.MaxInclusive ∷ facet.MaxLength ∷ facet.MinInclusive ∷ facet.MinLength ∷ facet.Pattern ∷ []

-- of each name the first facet
abbrev pub in_order : List FacetText → List Facet
in_order facets = flat_map (first_of facets) all_names

-- two facets or more have the same name
abbrev pub has_twice : List FacetText → Bool
has_twice facets = list_any (λ of. nat_le 2 (count_by (is_of of) facets)) all_names

-- the item of a datatype's name and facets, where the datatype is known: with the facets in the order of their names, of each name the first
abbrev pub item_of : List ℕ → List FacetText → Option Item
item_of name facets = option_map (λ k. items.Typed k (in_order facets)) (named type_names name)

-- an item is made, as the name and the facets say it
pub record IsMadeOf (name : List ℕ) (facets : List FacetText) (made : Option Item) : Type 0 where
  pub item : Item
  pub is_made : made ≡ Some item
  pub said : IsItemOf name facets item
  pub formed : IsFormedItem item
