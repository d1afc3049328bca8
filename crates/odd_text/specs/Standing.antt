-- What stands in a list, and two items that are alike in it.
use Rattle.std.specs.Prelude.{◌≡◌, List, ◌∷◌, ◌++◌}

-- the item stands somewhere in the list
abbrev pub StandsIn : {A : Type 0} → List A → A → Type 0
StandsIn {A} items item = (before : List A) × (after : List A) × (items ≡ before ++ item ∷ after)

-- two of the items are such
pub record StandsTwice {A : Type 0} (Is : A → Type 0) (items : List A) : Type 0 where
  pub before : List A
  pub first : A
  pub between : List A
  pub later : A
  pub after : List A
  pub parts : items ≡ before ++ first ∷ (between ++ later ∷ after)
  pub first_is : Is first
  pub later_is : Is later
