use Rattle.std.proofs.Common.{sym, ◌∙◌}
use Rattle.odd_classes.proofs.OfferTables.{all_made, made_more, made_none}
use Rattle.odd_classes.proofs.offer_lists.by_ident.Goals as goal

pub loop-place-preserved-in-Offers-1 : goal.loop-place-preserved-in-Offers-1
loop-place-preserved-in-Offers-1 c =
    let steps = c.in-Some.ensures.steps in
    let before = rw (steps.0.0, c.in-Some-Offers.is, c.in-Some-Offers.field-0-is) at c.loop-place.invariant in
    rw steps.2 (made_more _ _ c.requires.rising c.requires.elements _ _ _ _ _ c.index-entries-place.result _ before (rw steps.1 at c.in_ok-copy.ensures) c.in_ok-put.ensures.finds)

pub loop-place-preserved-in-Breaks-1 : goal.loop-place-preserved-in-Breaks-1
loop-place-preserved-in-Breaks-1 c =
    let steps = c.in-Some.ensures.steps in
    let before = rw steps.0.0 at c.loop-place.invariant in
    rw steps.2 (made_none _ _ _ _ _ _ (λ givens is. cc) before)

pub loop-place-preserved : goal.loop-place-preserved
loop-place-preserved c =
    let steps = c.in-Some.ensures.steps in
    let before = rw steps.0.0 at c.loop-place.invariant in
    rw steps.2 (made_none _ _ _ _ _ _ (λ givens is. cc) before)

pub returns : goal.returns
returns c = all_made _ _ _ _ _ c.loop-place.invariant (sym c.loop-place.place-iterator.iter.rest.ok.0 ∙ c.in-None.ensures.steps.0.0)
