use Rattle.std.proofs.Common.{refl}
use Rattle.odd_graph.proofs.Placed.{placed_one}
use Rattle.odd_graph.proofs.ordering.Placing.place.Goals as goal

pub returns : goal.returns
returns c = placed_one _ _ _ c.requires.places c.requires.left c.requires.free refl refl c.in_ok-push.ensures.items
