-- How often something may stand, as an element says it.
use Rattle.std.specs.Prelude.{ℕ, List, Option, Some, None, if◌then◌else◌, codes, unwrap_or}
use Rattle.odd_text.specs.Same.{is_same}
use Rattle.odd_tree.specs.Elements.{attribute_value}
use Rattle.odd_tree.specs.declared.tree.Attr.{Attr}
use Rattle.rng_types.specs.declared.bounds.Bounds.{Bounds}
use Rattle.odd_forms.specs.Form.{number_told}

-- no maximum where it is `unbounded`
abbrev pub maximum_told : Option (List ℕ) → Option ℕ
maximum_told None = Some 1
maximum_told (Some value) = if is_same value (codes "unbounded") then None else Some (unwrap_or (number_told (Some value)) 1)

-- once, where nothing is given
abbrev pub bounds_in : List Attr → Bounds
bounds_in attrs = record {
  min = unwrap_or (number_told (attribute_value attrs (codes "minOccurs"))) 1;
  max = maximum_told (attribute_value attrs (codes "maxOccurs"));
}
