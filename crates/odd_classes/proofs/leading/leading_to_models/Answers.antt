use Rattle.std.proofs.lemmas.Result.{IfOk-weaker}
use Rattle.odd_classes.proofs.Thinning.{lead_alike}
use Rattle.odd_classes.specs.Leading.{LeadAlike}
use Rattle.odd_classes.proofs.leading.leading_to_models.Goals as goal

pub returns : goal.returns
returns c =
    let kept = rw c.as_slice.ensures.value at c.thinned.ensures in
    IfOk-weaker _ _ (λ made. LeadAlike c.args.entries.now c.args.arrows.now made.items) (λ made are. lead_alike _ _ _ _ c.in_ok-marks.ensures are) kept
