-- What stands behind the sign of a whole number.
use Rattle.std.specs.Prelude.{◌≡◌, ℕ, List, ◌∷◌, IsTrue}
use Rattle.std.specs.Char.{is_ascii_digit}
use Rattle.std.specs.List.{list_all}

-- digits, of which the first is not zero
pub record AreTrimmed (ds : List ℕ) : Type 0 where
  pub digits : IsTrue (list_all is_ascii_digit ds)
  pub trimmed : (rest : List ℕ) → ds ≡ 0x30 ∷ rest → ⊥
