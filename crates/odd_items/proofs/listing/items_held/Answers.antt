use Rattle.std.proofs.Common.{inl, inr, ⊎_elim, ap, ◌∙◌}
use Rattle.std.proofs.lemmas.List.{nil_from_length}
use Rattle.odd_items.proofs.Held.{held_all, held_more, held_none, held_skip}
use Rattle.odd_items.proofs.listing.items_held.Goals as goal

pub loop-kept-init : goal.loop-kept-init
loop-kept-init c =
    let given = c.into_iter-kept-iterator.ensures.into_iter_gives in
    held_none c.args.found.now _ c.args.marks.now _ _ (ap (λ z. z.a.rest.now) given ∙ ap (λ z. z.rest.now) c.zip-kept-items.ensures.first ∙ c.iter.ensures.rest)
    (ap (λ z. z.b.rest.now) given ∙ ap (λ z. z.rest.now) c.zip-kept-items.ensures.second ∙ c.iter-2.ensures.rest) c.new-items.ensures.items

pub loop-kept-preserved-then-not-mark : goal.loop-kept-preserved-then-not-mark
loop-kept-preserved-then-not-mark c =
    held_skip c.args.found.now _ _ c.args.marks.now _ _ _ c.in-Some.kept.now c.in-Some.mark.now c.in-Some.ensures.steps.0 c.in-Some.ensures.steps.1 c.if-not-mark.true c.loop-kept.invariant

pub loop-kept-preserved : goal.loop-kept-preserved
loop-kept-preserved c =
    held_more c.args.found.now _ _ c.args.marks.now _ _ _ _ c.in-Some.kept.now c.in-Some.mark.now c.in-Some.ensures.steps.0 c.in-Some.ensures.steps.1 c.if-not-mark.false c.in_ok-add_children.ensures c.loop-kept.invariant

pub returns : goal.returns
returns c = held_all c.args.found.now _ c.args.marks.now _ _ (⊎_elim (λ e. inl (nil_from_length _ e.1.0)) (λ e. inr (nil_from_length _ e.1.0)) c.in-None.ensures.steps) c.loop-kept.invariant
