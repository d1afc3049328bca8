use Rattle.std.proofs.Common.{ap}
use Rattle.std.specs.Option.{option_copied}
use Rattle.odd_classes.proofs.Thinning.{all_places, place_more, place_none}
use Rattle.odd_classes.proofs.leading.places_of_models.Goals.{in-Some+in_ok-push, in_default}
use Rattle.odd_classes.proofs.leading.places_of_models.Goals as goal

pub loop-place-preserved : goal.loop-place-preserved
loop-place-preserved c =
    elim c.match-model_at.branch [
      | in-Some+in_ok-push w ↦
          let model = (c.model_at.ensures w.in-Some.field-0.now).0 (ap option_copied w.in-Some.is) in
          rw (w.places-is, w.in_ok-push.ensures.ok) (place_more _ _ _ c.loop-place.invariant (w.in-Some.field-0.now, model))
      | in_default w ↦
          rw w.places-is (place_none _ _ _ c.loop-place.invariant (λ class model. let found = (c.model_at.ensures class).1 model in let none = ap option_copied w.in_default.is in cc))
    ]

pub returns : goal.returns
returns c = all_places _ _ _ c.loop-place-test.false c.loop-place.invariant
