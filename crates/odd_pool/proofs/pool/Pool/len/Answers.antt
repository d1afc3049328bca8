use Rattle.std.proofs.Common.{ap, sym, subst, ◌∙◌, length}
use Rattle.odd_pool.specs.Pool.{NoTwo}
use Rattle.odd_pool.specs.Pattern.{Pattern}
use Rattle.odd_pool.proofs.Kept.{length_patterns}
use Rattle.odd_pool.proofs.Once.{one_position}
use Rattle.odd_pool.proofs.pool.Pool.len.Goals as goal

pub returns-clause-count : goal.returns-clause-count
returns-clause-count g c = c.len.ensures.len ∙ sym (length_patterns c.self.inside.nodes.keys) ∙ ap length c.self.view_is

pub returns-clause-once : goal.returns-clause-once
returns-clause-once g c = subst (λ ps. NoTwo {X = Pattern g.row.A-Leaf.Denot} ps) c.self.view_is (one_position c.self.inside.nodes.keys c.self.invariant)
