use Rattle.std.proofs.Common.{subst, sym, ◌↔◌, IsTrue, []}
use Rattle.odd_pool.specs.Pattern.{Fits}
use Rattle.odd_pool.specs.Pool.{pattern_at}
use Rattle.odd_pool.proofs.Shapes.{has_empty_fits}
use Rattle.odd_pool.proofs.pool.Pool.nullable.Goals as goal

pub returns : goal.returns
returns g c = λ takes.
    let p = pattern_at c.args.self.now c.args.at in
    subst (λ b. IsTrue b ↔ Fits takes p []) (sym c.holds_empty.ensures) (has_empty_fits takes p)
