use Rattle.odd_graph.proofs.Taking.{kept_made}
use Rattle.odd_graph.proofs.walk.Walk.new.Goals as goal

pub returns-clause-keeps : goal.returns-clause-keeps
returns-clause-keeps c =
    kept_made c.in_ok-unmarked.ensures c.in_ok-unmarked-2.ensures (c.in_ok-vec.ensures.items_if_clones_equal (λ y e. e)) c.new.ensures.items c.new-2.ensures.items c.new-3.ensures.items
