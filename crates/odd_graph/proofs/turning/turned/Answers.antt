use Rattle.odd_graph.proofs.OneMore.{all_turned, turned_more}
use Rattle.odd_graph.proofs.turning.turned.Goals as goal

pub loop-node-preserved : goal.loop-node-preserved
loop-node-preserved c = turned_more _ _ _ _ _ c.loop-node.invariant c.loop-node-test.true c.index-arrows-node.is c.in_ok-add_to_each.ensures

pub returns-clause-arrows : goal.returns-clause-arrows
returns-clause-arrows c = all_turned _ _ _ c.loop-node.invariant c.loop-node-test.false
