-- Characters that leave a pattern as it is.
use Rattle.std.specs.Prelude.{◌≡◌, ◌<◌, ◌==◌, ℕ, Bool, false, List, length, slice_get, Option, Some}
use Rattle.odd_pool.specs.Pattern.{Pattern, Leaves}
use Rattle.odd_pool.specs.Pool.{pattern_at}

-- of no character a position is known
abbrev pub IsNew : List (Option ℕ) → Type 0
IsNew known = (c at : ℕ) → slice_get known c ≡ Some (Some at) → ⊥

abbrev pub is_at : Option (Option ℕ) → ℕ → Bool
is_at (Some (Some known)) at = known == at
is_at o at = false

-- the position is known for the character
abbrev pub is_known : List (Option ℕ) → ℕ → ℕ → Bool
is_known known at c = is_at (slice_get known c) at

-- each character that is known for a position is ASCII, and what is left of its pattern after it is that pattern
abbrev pub Stay : (ℕ → ℕ → Bool) → List (Pattern ℕ) → List (Option ℕ) → Type 0
Stay takes ps known = (c at : ℕ) → slice_get known c ≡ Some (Some at) → (c < 128) × (at < length ps) × Leaves takes (pattern_at ps at) c (pattern_at ps at)
