use Rattle.std.specs.Prelude.{◌<◌, length}
use Rattle.odd_cases.proofs.pooled.matches_pooled.Given as goal

abbrev pub invariant-loop-symbol : goal.invariant-loop-symbol
invariant-loop-symbol g l = l.at < length l.pool
