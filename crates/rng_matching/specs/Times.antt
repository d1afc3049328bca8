-- Words that are a number of pieces, one after the other.
use Rattle.std.specs.Prelude.{◌≡◌, ℕ, zero, suc, List, []}
use Rattle.odd_patterns.specs.Pieces.{Then}

-- so many pieces that P holds of
abbrev pub Times : {S : Type 0} → (List S → Type 0) → ℕ → List S → Type 0
Times P zero w = w ≡ []
Times P (suc n) w = Then P (Times P n) w

-- a number of them that is within the bounds
abbrev pub Within : {S : Type 0} → (ℕ → Type 0) → (List S → Type 0) → List S → Type 0
Within B P w = (n : ℕ) × B n × Times P n w
