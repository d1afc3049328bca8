-- Constraints that may not stand where they do, in an element that is read as an element of the table.
use Rattle.std.specs.Prelude.{◌≡◌, ◌↔◌, ◌⊎◌, ℕ, List, [], ◌∷◌, codes, IsTrue}
use Rattle.std.specs.List.{Contains}
use Rattle.odd_text.specs.Standing.{StandsIn}
use Rattle.odd_tree.specs.Elements.{children_of}
use Rattle.odd_tree.specs.declared.tree.Tree.{Tree, out-Tree}
use Rattle.odd_forms.specs.Children.{IsChild}
use Rattle.odd_forms.specs.Names.{is_one_of}
use Rattle.odd_forms.specs.Table.{form_at}
use Rattle.odd_forms.specs.declared.element.Element.{Element}

abbrev pub IsConstraint : Tree → Type 0
IsConstraint t = IsTrue (is_one_of (codes "constraintSpec" ∷ []) t)

-- an element is read as the element of the table, in one that is read as another, or as that one itself
pub data IsReadIn : Element → Tree → Element → Tree → Type 0 where
  itself : {e : Element} {t : Tree} → IsReadIn e t e t
  inside : {e f g : Element} {t u : Tree} (child : Tree) → IsChild e f child → StandsIn (children_of t) child → IsReadIn f child g u → IsReadIn e t g u

-- a constraint may not stand in the element of the table
abbrev pub LeavesOutConstraints : Element → Type 0
LeavesOutConstraints e = Contains (form_at e).left_out_children (codes "constraintSpec")

-- a constraint that may not stand where it does, in an element that is read as an element of the table
pub data IsConstraintIn (e : Element) (t : Tree) : Tree → Type 0 where
  child : {c : Tree} (g : Element) (parent : Tree) → IsReadIn e t g parent → LeavesOutConstraints g → StandsIn (children_of parent) c → IsConstraint c → IsConstraintIn e t c

-- the places of such elements were put into a set
abbrev pub AddsPlaces : (Tree → Type 0) → List ℕ → List ℕ → Type 0
AddsPlaces Is old new = (place : ℕ) → Contains new place ↔ (Contains old place ⊎ ((c : Tree) × Is c × (place ≡ (out-Tree c).at)))
