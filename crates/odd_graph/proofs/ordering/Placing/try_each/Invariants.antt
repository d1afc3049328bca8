use Rattle.std.proofs.Common.{take}
use Rattle.std.specs.List.{Contains}
use Rattle.odd_graph.specs.Placing.{GoesOn}
use Rattle.odd_graph.proofs.ordering.Placing.try_each.Given as goal

abbrev pub invariant-loop-node : goal.invariant-loop-node
invariant-loop-node l = GoesOn l.fn.self l.self (Contains (take l.node-index l.node-items))
