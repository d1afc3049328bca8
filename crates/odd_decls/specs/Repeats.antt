-- The items whose key an earlier one has, and how they are found among the keys in order.
use Rattle.std.specs.Prelude.{◌≡◌, ◌↔◌, ℕ, List, ◌∷◌, ◌++◌, length, map}
use Rattle.std.specs.List.Sorted.{IsSorted}
use Rattle.odd_text.specs.declared.key.Key.{Key}
use Rattle.odd_tree.specs.declared.tree.Tree.{Tree}
use Rattle.odd_text.specs.Keyed.{key_of, keyed_cmp}
use Rattle.odd_text.specs.declared.keyed.Keyed.{Keyed}
use Rattle.odd_text.specs.Standing.{StandsTwice}
use Rattle.odd_decls.specs.Faults.{IsAgain}
use Rattle.odd_items.specs.declared.listing.Item.{Item}

-- the trees of items
abbrev pub trees_of : List Item → List Tree
trees_of items = map (λ i. i.tree.now) items

-- the item after so many others has the key of one of them
pub record IsRepeat (items : List Item) (place : ℕ) : Type 0 where
  pub before : List Item
  pub item : Item
  pub after : List Item
  pub parts : items ≡ before ++ item ∷ after
  pub many : length before ≡ place
  pub again : IsAgain (trees_of before) item.tree.now

-- the value stands after another by the same key
pub record IsTied (keyed : List (Keyed ℕ)) (value : ℕ) : Type 0 where
  pub key : Key
  pub both : StandsTwice (λ k. key_of k ≡ key) keyed
  pub is : both.later.value ≡ value

-- the repeats among items are told by their keys
abbrev pub TellRepeats : List Item → List (Keyed ℕ) → Type 0
TellRepeats items keyed = (place : ℕ) → IsTied keyed place ↔ IsRepeat items place

-- values in the order of their keys
abbrev pub AreSorted : List (Keyed ℕ) → Type 0
AreSorted keyed = IsSorted keyed_cmp keyed
