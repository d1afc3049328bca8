use Rattle.std.proofs.Common.{◌≡◌, refl, arith}
use Rattle.odd_graph.proofs.OneMore.{contains_with}
use Rattle.odd_items.proofs.Grown.{grown_one}
use Rattle.odd_items.proofs.holding.add_arrow.Goals as goal

pub returns-in_ok-push : goal.returns-in_ok-push
returns-in_ok-push c =
    rw c.in_ok-push.ensures.ok
    (grown_one c.args.arrows.now.items c.args.holder _ _ (λ to. c.args.place ≡ to) (omega (arith, c.in-Some.ensures.variant.0 refl)) c.in-Some.ensures.value (contains_with _ c.args.place))
