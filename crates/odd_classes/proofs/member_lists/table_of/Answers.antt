use Rattle.std.proofs.Common.{refl, sym, ap, ◌∙◌}
use Rattle.std.specs.Option.{option_copied}
use Rattle.odd_classes.proofs.TableMembers.{all_made, made_more, made_none}
use Rattle.odd_classes.proofs.member_lists.table_of.Goals as goal

pub loop-place-preserved-in_ok-put : goal.loop-place-preserved-in_ok-put
loop-place-preserved-in_ok-put c =
    let steps = c.in-Some.ensures.steps in
    let before = rw steps.0.0 at c.loop-place.invariant in
    let model = rw steps.1 at ((c.in-Some-model_at.ensures c.in-Some-model_at.class.now).0 refl) in
    rw steps.2 (made_more _ _ c.requires _ _ _ _ _ _ _ before model c.in_ok-copy.ensures c.in_ok-put.ensures.finds)

pub loop-place-preserved-in_default : goal.loop-place-preserved-in_default
loop-place-preserved-in_default c =
    let steps = c.in-Some.ensures.steps in
    let before = rw steps.0.0 at c.loop-place.invariant in
    let none = ap option_copied c.in_default.is in
    rw steps.2 (made_none _ _ _ _ _ _ before (λ class m. let found = (c.model_at.ensures class).1 (rw (sym steps.1) at m) in cc))

pub loop-place-preserved : goal.loop-place-preserved
loop-place-preserved c =
    let steps = c.in-Some.ensures.steps in
    let before = rw steps.0.0 at c.loop-place.invariant in
    let none = ap option_copied c.in_default.is in
    rw steps.2 (made_none _ _ _ _ _ _ before (λ class m. let found = (c.model_at.ensures class).1 (rw (sym steps.1) at m) in cc))

pub returns : goal.returns
returns c = all_made _ _ _ _ _ c.loop-place.invariant (sym c.loop-place.place-iterator.iter.rest.ok.0 ∙ c.in-None.ensures.steps.0.0)
