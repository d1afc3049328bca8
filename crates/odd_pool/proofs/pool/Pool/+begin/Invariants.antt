use Rattle.std.specs.Prelude.{◌+◌}
use Rattle.odd_pool.proofs.pool.Pool.+begin.Given as goal

abbrev pub decreases-begin : goal.decreases-begin
decreases-begin g l = l.at + l.at + 1

abbrev pub decreases-enter : goal.decreases-enter
decreases-enter g l = l.at + l.at
