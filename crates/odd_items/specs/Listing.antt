-- The items of a file as a list.
use Rattle.std.specs.Prelude.{◌≡◌, ℕ, Bool, true, List, Some, slice_get}
use Rattle.odd_text.specs.Standing.{StandsIn}
use Rattle.odd_forms.specs.Faults.{child_in}
use Rattle.odd_forms.specs.Table.{form_at}
use Rattle.odd_forms.specs.declared.element.Element.TheVariants as element
use Rattle.odd_items.specs.Search.{Found, children_found}
use Rattle.odd_items.specs.Searching.{IsAround}
use Rattle.odd_items.specs.declared.listing.Item.{Item}
use Rattle.odd_items.specs.declared.searching.Level.{Level}

-- the item is this element, with the element of the table that it is and the level around it
pub record IsItemOf (levels : List Level) (item : Item) (found : Found) : Type 0 where
  pub tree : item.tree.now ≡ found.element
  pub element : item.element ≡ child_in (form_at element.SchemaSpec) found.element
  pub level : IsAround levels item.level found.around

-- the items are just those elements that are such
pub record AreItems (levels : List Level) (items : List Item) (Is : Found → Type 0) : Type 0 where
  pub none_else : (item : Item) → StandsIn items item → (found : Found) × IsItemOf levels item found × Is found
  pub each : (found : Found) → Is found → (item : Item) × StandsIn items item × IsItemOf levels item found

-- the element is a child of one that is marked
pub record IsHeldBy (founds : List Found) (marks : List Bool) (found : Found) : Type 0 where
  pub place : ℕ
  pub holder : Found
  pub marked : slice_get marks place ≡ Some true
  pub holder_at : slice_get founds place ≡ Some holder
  pub stands : StandsIn (children_found holder) found
