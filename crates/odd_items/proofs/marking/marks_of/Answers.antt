use Rattle.std.proofs.Common.{refl, arith}
use Rattle.std.proofs.lemmas.Bool.{false≢true}
use Rattle.odd_items.proofs.MarksSet.{all_set, first_set, next_past, next_set}
use Rattle.odd_items.proofs.marking.marks_of.Goals.{in-Some, in_default}
use Rattle.odd_items.proofs.marking.marks_of.Goals as goal

pub loop-node-init : goal.loop-node-init
loop-node-init c = first_set _ _ _ c.in_ok-marks.ensures c.requires

pub loop-node-preserved : goal.loop-node-preserved
loop-node-preserved c =
    elim c.match-get_mut.branch [
      | in-Some w ↦
          rw w.marks-is (next_set _ _ _ _ _ c.loop-node.invariant c.loop-node-test.true (omega (arith, w.in-Some.ensures.variant.0 refl)))
      | in_default w ↦
          rw w.marks-is (next_past _ _ _ _ _ c.loop-node.invariant c.loop-node-test.true (λ h. false≢true (w.in_default.ensures.variant.1 (omega arith))))
    ]

pub returns : goal.returns
returns c =
    all_set _ _ _ _ _ c.loop-node.invariant c.loop-node-test.false (rw c.as_slice-node-items.ensures.value c.in_ok-nodes.ensures.nodes)
