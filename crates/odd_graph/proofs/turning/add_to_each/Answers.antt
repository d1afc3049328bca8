use Rattle.std.proofs.Common.{refl, arith}
use Rattle.odd_graph.proofs.OneMore.{added_to_none, added_to_one}
use Rattle.odd_graph.proofs.turning.add_to_each.Goals.{in-Some+in_ok-push, in_default}
use Rattle.odd_graph.proofs.turning.add_to_each.Goals as goal

pub loop-other-preserved : goal.loop-other-preserved
loop-other-preserved c =
    elim c.match-get_mut.branch [
      | in-Some+in_ok-push w ↦
          rw (w.made-is, w.in_ok-push.ensures.ok)
          (added_to_one _ _ _ _ _ _ c.loop-other.invariant c.loop-other-test.true (omega (arith, w.in-Some.ensures.variant.0 refl)) w.in-Some.ensures.value)
      | in_default w ↦ rw w.made-is (added_to_none _ _ _ _ _ c.loop-other.invariant c.loop-other-test.true (grind (arith, w.in_default.ensures.variant.1)))
    ]
