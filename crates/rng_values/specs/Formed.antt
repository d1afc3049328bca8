-- Items as `make_item` gives them.
use Rattle.std.specs.Prelude.{◌≡◌, true, All}
use Rattle.std.specs.Str.{chars}
use Rattle.rng_types.specs.declared.data_type.DataType.{DataType}
use Rattle.rng_types.specs.declared.facet.Facet.{Facet}
use Rattle.rng_types.specs.declared.item.Item.{Item}
use Rattle.rng_types.specs.declared.item.Item.TheVariants as items
use Rattle.rng_values.specs.Facets.{IsNumberOf, takes_facet}

-- a facet that the datatype takes, whose number is of its form
pub record IsFormedFacet (k : DataType) (f : Facet) : Type 0 where
  pub taken : takes_facet k f.name ≡ true
  pub number : IsNumberOf f.name (chars f.value)

abbrev pub IsFormedItem : Item → Type 0
IsFormedItem (items.Key key) = Unit {0}
IsFormedItem (items.Typed k facets) = All (IsFormedFacet k) facets
