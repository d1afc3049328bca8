use Rattle.odd_classes.proofs.Thinning.{mark_more, mark_none}
use Rattle.odd_classes.proofs.leading.marks_at.Goals.{then-node-count, else-node-count}
use Rattle.odd_classes.proofs.leading.marks_at.Goals as goal

pub loop-node-preserved : goal.loop-node-preserved
loop-node-preserved c =
    elim c.if-node-count.branch [
      | then-node-count w ↦ rw w.marks-is (mark_more _ _ _ _ c.loop-node.invariant c.loop-node-test.true w.if-node-count.true)
      | else-node-count w ↦ rw w.marks-is (mark_none _ _ _ _ c.loop-node.invariant c.loop-node-test.true w.if-node-count.false)
    ]
