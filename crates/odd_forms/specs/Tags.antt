-- The tags of the children of an element, and the facets that a `dataRef` gives by them.
use Rattle.std.specs.Prelude.{ℕ, Bool, ◌&&◌, List, [], ◌∷◌, ◌++◌, map, Option, Some, None, if◌then◌else◌, codes}
use Rattle.std.specs.List.{filter_map}
use Rattle.std.specs.Option.{option_map, option_to_list}
use Rattle.odd_text.specs.declared.name.Name.{Name}
use Rattle.odd_text.specs.Same.{is_same}
use Rattle.odd_tree.specs.Elements.{attribute_value, children_of}
use Rattle.odd_tree.specs.declared.tree.Attr.{Attr}
use Rattle.odd_tree.specs.declared.tree.Tree.{Tree, out-Tree}
use Rattle.rng_types.specs.declared.facet.FacetText.{FacetText}
use Rattle.odd_forms.specs.Names.{tei_namespace}
use Rattle.odd_text.specs.Same.{is_among}

-- the name of an element and its attributes
pub record Tag : Type 0 where
  pub name : Name
  pub attrs : List Attr

abbrev pub tag_of : Tree → Tag
tag_of t = record { name = (out-Tree t).name; attrs = (out-Tree t).attrs }

-- the tags of the children
abbrev pub tags_in : Tree → List Tag
tags_in t = map tag_of (children_of t)

-- the tag is TEI's with this local name
abbrev pub is_tagged : List ℕ → Tag → Bool
is_tagged local tag = is_same tag.name.ns tei_namespace && is_among (local ∷ []) tag.name.local

-- a facet, where its name and its value are given
abbrev pub facet_of : Option (List ℕ) → Option (List ℕ) → Option FacetText
facet_of None value = None
facet_of (Some name) None = None
facet_of (Some name) (Some value) = Some (record { name = name; value = value })

-- the facet that a child gives, where it is a `dataFacet`
abbrev pub facet_tagged : Tag → Option FacetText
facet_tagged tag = if is_tagged (codes "dataFacet") tag then facet_of (attribute_value tag.attrs (codes "name")) (attribute_value tag.attrs (codes "value")) else None

-- the pattern that a `restriction` is
abbrev pub restriction_in : List Attr → List FacetText
restriction_in attrs = option_to_list (option_map (λ value. record { name = codes "pattern"; value = value }) (attribute_value attrs (codes "restriction")))

-- the facets of a `dataRef` with these attributes and children
abbrev pub facets_in : List Attr → List Tag → List FacetText
facets_in attrs children = restriction_in attrs ++ filter_map facet_tagged children

abbrev pub facets_given : Tree → List FacetText
facets_given t = facets_in (out-Tree t).attrs (tags_in t)
