use Rattle.std.proofs.Common.{Bool}
use Rattle.std.proofs.lemmas.Result.{IfOk-weaker}
use Rattle.odd_pool.specs.Pattern.{empty, choice, group}
use Rattle.odd_pool.specs.Pool.{pattern_at}
use Rattle.odd_pool.specs.Left.{Stands}
use Rattle.odd_pool.proofs.Stands.{again_stands}
use Rattle.odd_pool.proofs.pool.Pool.again.Goals as goal

pub returns-clause-stands : goal.returns-clause-stands
returns-clause-stands g c =
    let now = c.join.new.self in
    let any = c.in_ok-any.any in
    IfOk-weaker c.join.result
    (λ made. (takes : g.row.A-Leaf.Denot → g.row.A-Symbol.Denot → Bool) → Stands takes now made (λ ps. group (pattern_at ps any) (pattern_at ps c.args.rest)))
    (λ made. (takes : g.row.A-Leaf.Denot → g.row.A-Symbol.Denot → Bool) → Stands takes now made (λ ps. group (choice empty (pattern_at ps c.args.repeated)) (pattern_at ps c.args.rest)))
    (λ made h takes. again_stands takes now c.in_ok-nothing.nothing any c.args.repeated c.args.rest made c.make.new.self c.make-2.new.self
    c.in_ok-any.ensures.kept c.join.ensures.kept c.in_ok-nothing.ensures.reads c.in_ok-any.ensures.reads (h takes))
    c.join.ensures.stands
