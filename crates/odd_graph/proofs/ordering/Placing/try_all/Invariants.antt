use Rattle.std.proofs.Common.{◌<◌}
use Rattle.odd_graph.specs.Placing.{GoesOn}
use Rattle.odd_graph.proofs.ordering.Placing.try_all.Given as goal

abbrev pub invariant-loop-node : goal.invariant-loop-node
invariant-loop-node l = GoesOn l.fn.self l.self (λ node. node < l.node)
