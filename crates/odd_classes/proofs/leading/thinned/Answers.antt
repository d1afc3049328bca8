use Rattle.odd_classes.proofs.Thinning.{all_kept, kept_more}
use Rattle.odd_classes.proofs.leading.thinned.Goals as goal

pub loop-nexts-preserved : goal.loop-nexts-preserved
loop-nexts-preserved c = rw c.in_ok-push.ensures.items (kept_more _ _ _ _ _ _ c.loop-nexts.invariant c.loop-nexts-test.true c.nexts-item.is c.in_ok-with_mark.ensures)

pub returns : goal.returns
returns c = all_kept _ _ _ _ c.loop-nexts.invariant c.loop-nexts-test.false c.loop-nexts.auto.nexts-index-end
