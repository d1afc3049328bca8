-- What one step adds to the items of a file.
use Rattle.std.specs.Prelude.{◌≡◌, ℕ, ◌⊎◌, List, Option}
use Rattle.odd_text.specs.Standing.{StandsIn}
use Rattle.odd_tree.specs.Elements.{children_of}
use Rattle.odd_tree.specs.declared.tree.Tree.{Tree}
use Rattle.odd_forms.specs.Faults.{child_in}
use Rattle.odd_forms.specs.Table.{form_at}
use Rattle.odd_forms.specs.declared.element.Element.TheVariants as element
use Rattle.odd_items.specs.declared.listing.Item.{Item}
use Rattle.odd_items.specs.declared.searching.Kept.{Kept}

-- the item is this element, under this level
pub record IsItemAt (inside : Option ℕ) (item : Item) (t : Tree) : Type 0 where
  pub tree : item.tree.now ≡ t
  pub element : item.element ≡ child_in (form_at element.SchemaSpec) t
  pub level : item.level ≡ inside

-- an item was added for each of the elements, under this level, and nothing else
pub record AddsItems (level : Option ℕ) (ts : List Tree) (old new : List Item) : Type 0 where
  pub kept : (item : Item) → StandsIn old item → StandsIn new item
  pub each : (t : Tree) → StandsIn ts t → (item : Item) × StandsIn new item × IsItemAt level item t
  pub none_else : (item : Item) → StandsIn new item → StandsIn old item ⊎ ((t : Tree) × StandsIn ts t × IsItemAt level item t)

-- and so for the children of an element
abbrev pub AddsChildren : Kept → List Item → List Item → Type 0
AddsChildren kept old new = AddsItems kept.inside (children_of kept.tree.now) old new
