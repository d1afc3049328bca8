use Rattle.std.proofs.Common.{[], sym, subst}
use Rattle.std.proofs.lemmas.List.{length-take-le, take_all}
use Rattle.odd_text.proofs.InList.{ends}
use Rattle.odd_decls.proofs.Tied.{AreKeyed, keyed_push, keyed_same, none_keyed, repeats_told}
use Rattle.odd_decls.specs.Items.{IsTold}
use Rattle.odd_decls.proofs.repeats.keyed_places.Goals.{in-Some+in_ok-push, in_default}
use Rattle.odd_decls.proofs.repeats.keyed_places.Goals as goal

pub loop-place-init : goal.loop-place-init
loop-place-init c told = subst (AreKeyed []) (sym c.new-keyed.ensures.items) none_keyed

pub loop-place-preserved : goal.loop-place-preserved
loop-place-preserved c told =
    let items = c.args.items.now in
    let place = c.loop-place.place in
    let next = ends items place _ c.loop-place-test.true c.index-items-place.is in
    let so_far = c.loop-place.invariant told in
    let item_told = subst IsTold (sym c.index-items-place.is) (told place _ c.loop-place-test.true) in
    elim c.match-key_given.branch [
      | in-Some+in_ok-push w ↦
          rw (next, w.keyed-is, w.in_ok-push.ensures.items)
          (keyed_push _ _ _ _ so_far (rw w.as_str.ensures (w.in-Some.ensures item_told)) (sym (length-take-le place items c.loop-place.auto.place-end)))
      | in_default w ↦ rw (next, w.keyed-is) (keyed_same _ _ _ so_far (w.in_default.ensures item_told))
    ]

pub returns : goal.returns
returns c told = repeats_told c.args.items.now _ (subst (λ items. AreKeyed items c.loop-place.keyed.items) (take_all _ _ c.loop-place-test.false) (c.loop-place.invariant told))
