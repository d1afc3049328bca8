use Rattle.std.proofs.lemmas.List.{take_all}
use Rattle.odd_classes.proofs.Linked.{no_place, place_found}
use Rattle.odd_classes.proofs.graph.arrows_of.Goals.{in-Some+in_ok-push, in_default}
use Rattle.odd_classes.proofs.graph.arrows_of.Goals as goal

pub loop-key-preserved : goal.loop-key-preserved
loop-key-preserved c =
    elim c.match-place_of.branch [
      | in-Some+in_ok-push w ↦ rw (w.nodes-is, w.in_ok-push.ensures.ok) (place_found _ _ _ _ _ c.loop-key.invariant c.loop-key-test.true c.key-item.is _ w.in-Some.ensures)
      | in_default w ↦ rw w.nodes-is (no_place _ _ _ _ _ c.loop-key.invariant c.loop-key-test.true c.key-item.is (λ place p. let no = (w.in_default.ensures place).1 p in cc))
    ]

pub returns : goal.returns
returns c = rw (← c.in_ok-linked.ensures, ← c.as_slice-key-items.ensures, ← take_all _ _ c.loop-key-test.false) c.loop-key.invariant
