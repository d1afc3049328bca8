-- Which outcomes tell a difference.
use Rattle.std.specs.Prelude.{Bool, is_some}
use Rattle.odd_case_files.specs.declared.outcome.Outcome.{Outcome}

-- whether an outcome tells a difference
abbrev pub differs : Outcome → Bool
differs outcome = is_some outcome.difference
