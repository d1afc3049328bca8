-- When what is remembered is right.
use Rattle.std.specs.Prelude.{◌≡◌, ◌<◌, ℕ, Bool, List, length, slice_get, Option, Some}
use Rattle.odd_pool.specs.Pattern.{Pattern, Leaves}
use Rattle.odd_pool.specs.Pool.{pattern_at}
use Rattle.odd_pool.specs.declared.memory.Step.{Step}

-- nothing is remembered
abbrev pub NoStep : List (Option Step) → Type 0
NoStep slots = (k : ℕ) (e : Step) → slice_get slots k ≡ Some (Some e) → ⊥

-- each step leads to what is left of its pattern, after every symbol of its number
abbrev pub Remembers : {L S : Type 0} → (L → S → Bool) → (S → ℕ) → List (Pattern L) → List (Option Step) → Type 0
Remembers {L} {S} takes number ps slots =
    (k : ℕ) (e : Step) → slice_get slots k ≡ Some (Some e) → (s : S) → number s ≡ e.number → (e.at < length ps) × (e.to < length ps) × Leaves takes (pattern_at ps e.at) s (pattern_at ps e.to)
