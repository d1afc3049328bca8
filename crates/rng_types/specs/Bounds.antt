-- How often something may stand, as files say it.
use Rattle.std.specs.Prelude.{◌≡◌, ◌<◌, ◌≤◌, ◌^◌, ℕ, Some}
use Rattle.rng_types.specs.declared.bounds.Bounds.{Bounds}

-- Each number has at most 9 digits, and the least is not above the greatest, if there is one.
pub record IsFormedBounds (b : Bounds) : Type 0 where
  pub least : b.min < 10 ^ 9
  pub greatest : (max : ℕ) → b.max ≡ Some max → max < 10 ^ 9
  pub ordered : (max : ℕ) → b.max ≡ Some max → b.min ≤ max
