use Rattle.odd_classes.proofs.Linked.{all_arrows, arrows_more}
use Rattle.odd_classes.proofs.graph.graph_by.Goals as goal

pub loop-part-preserved : goal.loop-part-preserved
loop-part-preserved c = rw c.in_ok-push.ensures.items (arrows_more _ _ _ _ _ _ c.loop-part.invariant c.loop-part-test.true c.loop-part-item.is c.in_ok-arrows_of.ensures)

pub returns : goal.returns
returns c = all_arrows _ _ _ _ c.loop-part.invariant c.loop-part-test.false c.loop-part.auto.part-index-end
