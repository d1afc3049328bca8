use Rattle.std.proofs.Common.{false, refl, sym, ◌∙◌, arith}
use Rattle.std.proofs.lemmas.Bool.{false≢true}
use Rattle.std.proofs.lemmas.List.{get_or_read, set-get_or}
use Rattle.odd_graph.proofs.OneMore.{marked_before, marked_now}
use Rattle.odd_graph.proofs.search.mark_all.Goals.{in-Some+then-not-mark+in_ok-push, in-Some+else-not-mark, in_default}
use Rattle.odd_graph.proofs.search.mark_all.Goals as goal

pub loop-next-preserved : goal.loop-next-preserved
loop-next-preserved c =
    elim c.match-get_mut.branch [
      | in-Some+then-not-mark+in_ok-push w ↦
          rw (w.marks-is, w.nodes-is, w.in_ok-push.ensures.items) (marked_now _ _ _ _ _ _ _ c.loop-next.invariant c.loop-next-test.true (omega (arith, w.in-Some.ensures.variant.0 refl))
          w.in-Some.ensures.value w.if-not-mark.true)
      | in-Some+else-not-mark w ↦
          rw (w.marks-is, w.nodes-is, w.in-Some.ensures.value, set-get_or) (marked_before _ _ _ _ _ _ c.loop-next.invariant c.loop-next-test.true
          (λ h. sym (get_or_read _ _ _ h w.in-Some.ensures.value false) ∙ w.if-not-mark.false))
      | in_default w ↦
          rw (w.marks-is, w.nodes-is) (marked_before _ _ _ _ _ _ c.loop-next.invariant c.loop-next-test.true (λ h. absurd (false≢true (w.in_default.ensures.variant.1 (omega arith)))))
    ]
