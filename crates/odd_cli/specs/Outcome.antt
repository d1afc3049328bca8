-- What the steps of a run come to, one after another: each answers a status, or gives what the next one goes on with.
use Rattle.std.specs.Prelude.{◌≡◌, ◌⊎◌}
use Rattle.odd_cli.specs.declared.status.Status.{Status}

pub data Outcome (A : Type 0) : Type 0 where
  answers : Status → Outcome A
  gives : A → Outcome A

-- a step, and then another with what it gives
abbrev pub Then : {X Y Z : Type 0} → (X → Outcome Y → Type 0) → (Y → Outcome Z → Type 0) → X → Outcome Z → Type 0
Then {Y = Y} R S x (answers s) = R x (answers s) ⊎ ((y : Y) × R x (gives y) × S y (answers s))
Then {Y = Y} R S x (gives z) = (y : Y) × R x (gives y) × S y (gives z)

-- each input has one outcome
abbrev pub IsOne : {X Y : Type 0} → (X → Outcome Y → Type 0) → Type 0
IsOne {X} {Y} R = (x : X) (o p : Outcome Y) → R x o → R x p → o ≡ p
