-- What adding a node to some of many lists does.
use Rattle.std.specs.Prelude.{◌≡◌, ◌↔◌, ◌⊎◌, ◌<◌, ℕ, List, [], length, get_or}
use Rattle.std.specs.List.{Contains}

-- the lists before and after the node is added to each of them whose number is among the others
pub record HasAdded (others : List ℕ) (node : ℕ) (lists made : List (List ℕ)) : Type 0 where
  pub same : length made ≡ length lists
  pub added : (other item : ℕ) → Contains (get_or made other []) item ↔ (Contains (get_or lists other []) item ⊎ ((node ≡ item) × Contains others other × (other < length lists)))
