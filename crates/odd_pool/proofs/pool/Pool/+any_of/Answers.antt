use Rattle.std.proofs.Common.{◌≡◌, Bool, List}
use Rattle.std.proofs.lemmas.Result.{IfOk-weaker}
use Rattle.odd_pool.specs.Pattern.{Pattern, choice}
use Rattle.odd_pool.specs.Pool.{pattern_at, Grows}
use Rattle.odd_pool.specs.Left.{StandsForSome}
use Rattle.odd_pool.proofs.Stands.{some_halves}
use Rattle.odd_pool.proofs.pool.Pool.+any_of.Goals as goal

pub returns-clause-stands : goal.returns-clause-stands
returns-clause-stands g t c =
    let one = c.any_of.new.self in
    let two = c.any_of-2.new.self in
    let now = c.make.new.self in
    let first = c.in_ok-first.first in
    let rest = c.in_ok-rest.rest in
    let is = c.args.members.now in
    IfOk-weaker c.make.result
    (λ made. (ps : List (Pattern g.row.A-Leaf.Denot)) → Grows now ps → pattern_at ps made ≡ choice (pattern_at ps first) (pattern_at ps rest))
    (λ made. (takes : g.row.A-Leaf.Denot → g.row.A-Symbol.Denot → Bool) → StandsForSome takes now made is)
    (λ made reads takes. some_halves takes now one two first rest made is c.split_at.result.0.now c.split_at.result.1.now c.split_at.ensures.by_index.0 c.in_ok-rest.ensures.kept c.make.ensures.kept
    (c.in_ok-first.ensures.stands takes) (c.in_ok-rest.ensures.stands takes) reads)
    c.make.ensures.reads
