use Rattle.std.proofs.Common.{sym, ◌∙◌}
use Rattle.std.proofs.lemmas.Bool.{false≢true}
use Rattle.std.proofs.lemmas.List.{take_all}
use Rattle.odd_classes.proofs.Thinning.{keep_more, keep_none}
use Rattle.odd_classes.proofs.leading.with_mark.Goals.{then-is_marked+in_ok-push, else-is_marked}
use Rattle.odd_classes.proofs.leading.with_mark.Goals as goal

pub loop-node-preserved : goal.loop-node-preserved
loop-node-preserved c =
    elim c.if-is_marked.branch [
      | then-is_marked+in_ok-push w ↦
          rw (w.kept-is, w.in_ok-push.ensures.ok) (keep_more _ _ _ _ c.loop-node.invariant c.loop-node-test.true (c.is_marked.ensures.0 w.if-is_marked.true))
      | else-is_marked w ↦
          rw w.kept-is (keep_none _ _ _ _ c.loop-node.invariant c.loop-node-test.true (λ mark. false≢true (sym w.if-is_marked.false ∙ c.is_marked.ensures.1 mark)))
    ]

pub returns : goal.returns
returns c = rw (← c.as_slice-node-items.ensures, ← take_all _ _ c.loop-node-test.false) c.loop-node.invariant
