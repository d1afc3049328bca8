-- Which elements hold items: the `schemaSpec`, a group that stands among the items, and a group that one of them refers to.
use Rattle.std.specs.Prelude.{◌≡◌, ◌≢◌, ℕ, ◌&&◌, Bool, true, false, if◌then◌else◌, List, [], ◌∷◌, ◌++◌, Option, Some, None, codes, IsTrue}
use Rattle.odd_text.specs.Same.{is_same}
use Rattle.odd_text.specs.Standing.{StandsIn}
use Rattle.odd_tree.specs.Elements.{given}
use Rattle.odd_tree.specs.Names.{xml_namespace}
use Rattle.odd_tree.specs.declared.tree.Attr.{Attr}
use Rattle.odd_tree.specs.declared.tree.Tree.{Tree, out-Tree}
use Rattle.odd_forms.specs.Names.{is_one_of}
use Rattle.odd_items.specs.Search.{Finds, Found, children_found}

abbrev pub schema_names : List (List ℕ)
schema_names = codes "schemaSpec" ∷ []

abbrev pub group_names : List (List ℕ)
group_names = codes "specGrp" ∷ []

abbrev pub reference_names : List (List ℕ)
reference_names = codes "specGrpRef" ∷ []

-- what may hold items
abbrev pub holder_names : List (List ℕ)
holder_names = codes "schemaSpec" ∷ codes "specGrp" ∷ []

-- the value of `xml:id`
abbrev is_id : Attr → Bool
is_id a = is_same a.name.ns xml_namespace && is_same a.name.local (codes "id")

abbrev pub id_among : List Attr → Option (List ℕ)
id_among [] = None
id_among (a ∷ rest) = if is_id a then Some a.value else id_among rest

abbrev pub id_of : Tree → Option (List ℕ)
id_of t = id_among (out-Tree t).attrs

-- the group of an id: of several the first
pub record IsGroupOf (t : Tree) (id : List ℕ) (group : Found) : Type 0 where
  pub before : List Found
  pub after : List Found
  pub found : Finds group_names false [] t (before ++ group ∷ after)
  pub named : id_of group.element ≡ Some id
  pub first : (other : Found) → StandsIn before other → id_of other.element ≢ Some id

-- a `specGrpRef` refers to the id: its target is `#` and the id
abbrev pub RefersTo : Tree → List ℕ → Type 0
RefersTo t id = IsTrue (is_one_of reference_names t) × (given t (codes "target") ≡ Some (0x23 ∷ id))

pub data HoldsItems (t : Tree) (schema : Found) : Found → Type 0 where
  itself : HoldsItems t schema schema
  inside : {group : Found} (holder : Found) → HoldsItems t schema holder → StandsIn (children_found holder) group → IsTrue (is_one_of group_names group.element) → HoldsItems t schema group
  referred : {group : Found} (holder reference : Found) (id : List ℕ) → HoldsItems t schema holder → StandsIn (children_found holder) reference → RefersTo reference.element id
      → IsGroupOf t id group → HoldsItems t schema group

abbrev pub declaration_names : List (List ℕ)
declaration_names = codes "elementSpec" ∷ codes "classSpec" ∷ codes "macroSpec" ∷ codes "dataSpec" ∷ []

-- The items of a file in which these are the `schemaSpec`: of the first, or, where there is none, the declarations that stand in no other.
pub data IsItemIn (t : Tree) : List Found → Found → Type 0 where
  held : {schema item : Found} {others : List Found} (holder : Found) → HoldsItems t schema holder → StandsIn (children_found holder) item → IsItemIn t (schema ∷ others) item
  bare : {item : Found} (found : List Found) → Finds declaration_names true [] t found → StandsIn found item → IsItemIn t [] item
