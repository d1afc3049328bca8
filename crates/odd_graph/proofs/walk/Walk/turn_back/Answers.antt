use Rattle.std.proofs.lemmas.Bool.{both_ways}
use Rattle.odd_graph.proofs.Walking.{not_standing}
use Rattle.odd_graph.proofs.walk.Walk.turn_back.Goals as goal

pub returns-else-stands_at-clause-keeps : goal.returns-else-stands_at-clause-keeps
returns-else-stands_at-clause-keeps c =
    let found = rw c.deref.ensures.value at c.in-Some.ensures.lookup.3 in
    not_standing c.args.node c.in-Some.field-0.now c.requires.keeps found.0 (found.1 _)
    (λ s. both_ways c.stands_at.result c.if-stands_at.false (c.stands_at.ensures.1 s)) c.requires.seen
