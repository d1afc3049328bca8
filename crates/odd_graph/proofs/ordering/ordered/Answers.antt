use Rattle.std.proofs.Common.{ap, ◌∙◌}
use Rattle.odd_graph.proofs.Placed.{all_placed}
use Rattle.odd_graph.proofs.ordering.ordered.Goals as goal

pub settle-requires-clause-turned : goal.settle-requires-clause-turned
settle-requires-clause-turned c = rw (c.as_slice.ensures.value, c.in_ok-try_all.ensures.arrows, c.in_ok-placing.ensures.arrows) c.in_ok-back.ensures.arrows

pub returns-clause-each : goal.returns-clause-each
returns-clause-each c =
    let same = ap (λ arrows. arrows.now) (c.in_ok-settle.ensures.arrows ∙ c.in_ok-try_all.ensures.arrows) ∙ c.in_ok-placing.ensures.arrows in
    rw same at (all_placed _ c.in_ok-settle.ensures.places c.in_ok-settle.ensures.held)
