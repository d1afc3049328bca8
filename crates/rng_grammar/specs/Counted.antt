-- Counts of 64 bits, which stand still at the greatest.
use Rattle.std.specs.Prelude.{ℕ, min}
use Rattle.odd_text.specs.Count.{last_count}

abbrev pub counted : ℕ → ℕ
counted n = min n last_count
