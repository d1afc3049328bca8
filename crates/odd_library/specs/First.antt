-- Which of two offences comes first, and which of all.
use Rattle.std.specs.Prelude.{◌≡◌, ◌≤◌, ◌<◌, ◌⊎◌, ℕ}

-- by place and then by rule
abbrev pub IsNotAfter : ℕ → ℕ → ℕ → ℕ → Type 0
IsNotAfter place rule other others_rule = (place < other) ⊎ ((place ≡ other) × (rule ≤ others_rule))

-- of all offences the first
pub record IsFirstOf (HasOne : ℕ → ℕ → Type 0) (place rule : ℕ) : Type 0 where
  pub is_one : HasOne place rule
  pub first : (other others_rule : ℕ) → HasOne other others_rule → IsNotAfter place rule other others_rule
