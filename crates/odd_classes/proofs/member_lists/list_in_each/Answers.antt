use Rattle.std.proofs.Common.{◌≡◌, ◌<◌, ◌∷◌, [], ◌++◌, length, get_or, refl, sym, ap, arith}
use Rattle.std.proofs.lemmas.Bool.{false≢true}
use Rattle.std.proofs.lemmas.List.{get_or_read, length-append}
use Rattle.std.proofs.lemmas.List.Sums.{sum_by-set}
use Rattle.std.specs.Option.{option_copied}
use Rattle.odd_classes.proofs.Listed.{each_more, each_none}
use Rattle.odd_classes.proofs.member_lists.list_in_each.Goals.{in-Some+in-Some-get_mut+in_ok-copy+in_ok-push, in-Some+in_default-get_mut, in_default}
use Rattle.odd_classes.proofs.member_lists.list_in_each.Goals as goal

pub loop-place-preserved : goal.loop-place-preserved
loop-place-preserved c =
    let within = c.loop-place-test.true in
    let place = get_or c.args.places.now c.loop-place.place-index 0 in
    let lists = c.loop-place.lists.items in
    let before = c.loop-place.invariant in
    elim c.match-model_at.branch [
      | in-Some+in-Some-get_mut+in_ok-copy+in_ok-push w ↦
          let inside : place < length lists = omega (arith, w.in-Some-get_mut.ensures.variant.0 refl) in
          let is : get_or lists place [] ≡ w.in-Some-get_mut.list.now = sym (get_or_read _ _ _ inside w.in-Some-get_mut.ensures.value []) in
          let model = (c.model_at.ensures w.in-Some.field-0.now).0 (ap option_copied w.in-Some.is) in
          let listed = each_more _ _ c.requires _ _ _ _ within before.0 w.in-Some.field-0.now model inside in
          let sum = sum_by-set length lists place (w.in-Some-get_mut.list.now ++ c.args.ident.now ∷ []) [] inside in
          rw (w.lists-is, w.count-is, w.in_ok-push.ensures.ok, w.in_ok-copy.ensures) (rw is at listed, omega (arith, sum, ap length is, length-append w.in-Some-get_mut.list.now (c.args.ident.now ∷ []), before.1), omega (arith, before.2))
      | in-Some+in_default-get_mut w ↦
          rw (w.lists-is, w.count-is) (each_none _ _ c.requires _ _ _ _ within before.0 (λ class less model. false≢true (w.in_default-get_mut.ensures.variant.1 (omega (arith, less, before.0.same)))), before.1, omega (arith, before.2))
      | in_default w ↦
          rw (w.lists-is, w.count-is) (each_none _ _ c.requires _ _ _ _ within before.0 (λ class less model. let found = (c.model_at.ensures class).1 model in let none = ap option_copied w.in_default.is in cc), before.1, omega (arith, before.2))
    ]
