use Rattle.std.proofs.Common.{ap, refl, ◌∙◌}
use Rattle.std.proofs.lemmas.Option.{slice_get_read}
use Rattle.odd_forms.specs.Faults.{child_in}
use Rattle.odd_decls.proofs.KeptFound.{items_all, items_next}
use Rattle.odd_decls.proofs.file_items.items_at.Goals as goal

pub loop-kept-preserved : goal.loop-kept-preserved
loop-kept-preserved c =
    let kept = c.kept-item.result in
    let told = c.child_of.ensures ∙ ap (λ f. child_in f kept.tree.now) c.form-form.ensures in
    items_next c.args.found.now c.loop-kept.kept-index _ _ _ kept c.loop-kept.invariant (slice_get_read c.args.found.now _ _ kept refl c.loop-kept-test.true c.kept-item.is) c.in_ok-push.ensures.items refl told refl

pub returns : goal.returns
returns c = items_all c.args.found.now c.loop-kept.kept-index _ c.loop-kept-test.false c.loop-kept.invariant
