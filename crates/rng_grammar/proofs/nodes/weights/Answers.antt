use Rattle.std.proofs.lemmas.List.{take_all}
use Rattle.rng_grammar.proofs.Weighing.{all_weighed, weighed_next}
use Rattle.rng_grammar.proofs.nodes.weights.Goals as goal

pub loop-place-preserved : goal.loop-place-preserved
loop-place-preserved c =
    let order = rw (c.as_slice.ensures.value, ← c.as_slice-place-items.ensures.value) at c.in_ok-order.ensures.order in
    weighed_next c.args.grammar.now c.args.places.now _ c.requires.places c.in_ok-arrows.ensures _ c.loop-place.place-index _ _ order c.loop-place-test.true c.loop-place.invariant c.weigh.ensures

pub returns : goal.returns
returns c =
    let order = rw (c.as_slice.ensures.value, ← c.as_slice-place-items.ensures.value) at c.in_ok-order.ensures in
    all_weighed c.args.grammar.now c.args.places.now _ c.requires.places c.in_ok-arrows.ensures c.requires.apart c.as_slice-place-items.result.now c.loop-place.weights.items order.order order.each
    (rw (take_all c.loop-place.place-index c.as_slice-place-items.result.now c.loop-place-test.false) at c.loop-place.invariant)
