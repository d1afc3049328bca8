use Rattle.std.specs.Prelude.{length}
use Rattle.odd_pool.proofs.pool.Pool.+any_of.Given as goal

abbrev pub decreases-any_of : goal.decreases-any_of
decreases-any_of g l = length l.members.now
