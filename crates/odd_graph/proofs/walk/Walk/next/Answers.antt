use Rattle.odd_graph.proofs.Walking.{awaits_new}
use Rattle.odd_graph.proofs.walk.Walk.next.Goals as goal

pub returns-then-is_new-clause-next : goal.returns-then-is_new-clause-next
returns-then-is_new-clause-next c = awaits_new _ _ c.in-Some.ensures.keeps c.in-Some.ensures.led (c.is_new.ensures.new c.if-is_new.true)
