use Rattle.std.proofs.Common.{◌-◌}
use Rattle.odd_graph.specs.Marking.{to_come}
use Rattle.odd_graph.proofs.NodesReached.{ReachedSoFar}
use Rattle.odd_graph.proofs.search.reached.Given as goal

abbrev pub invariant-loop-node : goal.invariant-loop-node
invariant-loop-node l = ReachedSoFar l.arrows l.from l.marks.items l.nodes.items l.place

abbrev pub decreases-loop-node : goal.decreases-loop-node
decreases-loop-node l = to_come l.marks.items l.nodes.items - l.place
