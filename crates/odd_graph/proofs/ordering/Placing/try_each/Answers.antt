use Rattle.odd_graph.proofs.OneMore.{contains_next}
use Rattle.odd_graph.proofs.Placed.{placed_on}
use Rattle.odd_graph.proofs.ordering.Placing.try_each.Goals as goal

pub loop-node-preserved : goal.loop-node-preserved
loop-node-preserved c = placed_on _ _ _ _ _ _ c.loop-node.invariant c.in_ok-try_node.ensures (λ node. (contains_next _ _ 0 node c.loop-node-test.true).0)
