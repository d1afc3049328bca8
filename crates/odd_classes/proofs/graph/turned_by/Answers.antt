use Rattle.std.proofs.lemmas.Result.{IfOk-weaker}
use Rattle.odd_classes.specs.Placing.{IsTurnedGraphOf, keys_by}
use Rattle.odd_classes.proofs.graph.turned_by.Goals as goal

pub returns : goal.returns
returns c =
    let same = rw c.as_slice.ensures.value at c.turned.ensures.arrows in
    IfOk-weaker _ _ (λ back. IsTurnedGraphOf (keys_by c.args.link) c.args.entries.now back.items)
    (λ back turned. record { arrows = c.in_ok-arrows.arrows.items; graph = c.in_ok-arrows.ensures; turned = turned }) same
