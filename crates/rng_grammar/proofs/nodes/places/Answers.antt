use Rattle.std.proofs.Common.{arith}
use Rattle.std.proofs.lemmas.Grind.{common_steps}
use Rattle.std.proofs.lemmas.List.{drop_all}
use Rattle.rng_grammar.proofs.Weighing.{place_kept, place_put}
use Rattle.rng_grammar.proofs.nodes.places.Goals.{then-is_none+in_ok-copy+in_ok-put, else-is_none}
use Rattle.rng_grammar.proofs.nodes.places.Goals as goal

pub loop-place-preserved : goal.loop-place-preserved
loop-place-preserved c =
    let items = c.as_slice-define-items.ensures in
    let within = rw items at c.loop-place-test.true in
    let is = rw items at c.define-item.is in
    elim c.if-is_none.branch [
      | then-is_none+in_ok-copy+in_ok-put w ↦
          rw w.places-is (place_put c.args.defines.now _ c.define-item.result within is c.loop-place.places c.loop-place.invariant w.put.new.self
          (grind (arith, common_steps)) (rw w.in_ok-copy.ensures at w.in_ok-put.ensures.finds))
      | else-is_none w ↦
          rw w.places-is (place_kept c.args.defines.now _ c.define-item.result within is c.loop-place.places c.loop-place.invariant (λ none. grind (arith, common_steps)))
    ]

pub returns : goal.returns
returns c = λ name. rw (drop_all c.loop-place.place c.args.defines.now (rw c.as_slice-define-items.ensures at c.loop-place-test.false)) at (c.loop-place.invariant name)
