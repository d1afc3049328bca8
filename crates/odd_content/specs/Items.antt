-- What a `dataRef` says (TEI Guidelines, the chapter Documentation Elements).
use Rattle.std.specs.Prelude.{ℕ, List, Option, Some, None, codes}
use Rattle.odd_tree.specs.Elements.{attribute_value}
use Rattle.odd_tree.specs.declared.tree.Attr.{Attr}
use Rattle.odd_tree.specs.declared.tree.Tree.{Tree, out-Tree}
use Rattle.rng_types.specs.declared.facet.FacetText.{FacetText}
use Rattle.rng_types.specs.declared.item.Item.{Item}
use Rattle.rng_types.specs.declared.item.Item.TheVariants as item
use Rattle.rng_values.specs.Making.{item_of}
use Rattle.odd_forms.specs.Tags.{Tag, facets_in, tags_in}

-- the datatype of the key, or else the datatype of XML Schema of the name, with the facets
abbrev pub item_by : (key name : Option (List ℕ)) → List FacetText → Option Item
item_by (Some key) name facets = Some (item.Key key)
item_by None (Some name) facets = item_of name facets
item_by None None facets = None

-- of a `dataRef` with these attributes and children
abbrev pub item_in : List Attr → List Tag → Option Item
item_in attrs children = item_by (attribute_value attrs (codes "key")) (attribute_value attrs (codes "name")) (facets_in attrs children)

abbrev pub item_given : Tree → Option Item
item_given t = item_in (out-Tree t).attrs (tags_in t)
