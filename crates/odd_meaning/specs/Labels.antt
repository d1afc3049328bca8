-- What a child element may count for.
use Rattle.std.specs.Prelude.{ℕ, List}
use Rattle.odd_content.specs.declared.content.Condition.{Condition}

-- the held element of an ident, or a condition
pub data Label : Type 0 where
  element : List ℕ → Label
  condition : Condition → Label
