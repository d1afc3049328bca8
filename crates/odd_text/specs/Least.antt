-- The least rule that is broken.
use Rattle.std.specs.Prelude.{◌≤◌, ℕ, List, Option, Some, None}
use Rattle.odd_text.specs.Standing.{StandsIn}

-- the least rule that is broken, where one is
abbrev pub IsLeast : (ℕ → Type 0) → Option ℕ → Type 0
IsLeast Broken None = (rule : ℕ) → Broken rule → ⊥
IsLeast Broken (Some rule) = Broken rule × ((other : ℕ) → Broken other → rule ≤ other)

-- a fault of one of the items
abbrev pub Among : {A : Type 0} → (A → ℕ → Type 0) → List A → ℕ → Type 0
Among {A} Fault items rule = (item : A) × StandsIn items item × Fault item rule
