-- What is left of an ODD file with `aside`: each `constraintSpec` that would break rule 2 is taken out before all else. Where it stands elsewhere it stays.
use Rattle.std.specs.Prelude.{ℕ, zero, Bool, true, false, List, []}
use Rattle.odd_tree.specs.declared.tree.Tree.{Tree}
use Rattle.odd_forms.specs.declared.element.Element.{Element}
use Rattle.odd_items.specs.Constraints.{IsConstraint, IsConstraintIn}
use Rattle.odd_items.specs.Groups.{IsItemIn, schema_names}
use Rattle.odd_items.specs.Search.{Finds, Found}
use Rattle.odd_items.specs.Without.{IsWithout}
use Rattle.odd_decls.specs.Items.{IsItem}

-- an item that is a constraint, or one in it
pub data IsConstraintOf (item : Tree) : Tree → Type 0 where
  itself : IsConstraint item → IsConstraintOf item item
  inside : {c : Tree} (e : Element) → IsItem e item → IsConstraintIn e item c → IsConstraintOf item c

-- a constraint that would break rule 2, in a file in which these are the `schemaSpec`
abbrev pub IsLeftOut : Tree → List Found → Tree → Type 0
IsLeftOut t schemas c = (item : Found) × IsItemIn t schemas item × IsConstraintOf item.element c

-- what is read of a file, with `aside` or without, and how many constraints were taken out
pub data IsReadOf (t : Tree) : Bool → Tree → ℕ → Type 0 where
  whole : IsReadOf t false t zero
  without : {u : Tree} {count : ℕ} (schemas : List Found) → Finds schema_names false [] t schemas → IsWithout (IsLeftOut t schemas) t u count → IsReadOf t true u count
