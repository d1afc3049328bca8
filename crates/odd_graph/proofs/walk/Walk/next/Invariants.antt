use Rattle.std.proofs.Common.{◌≡◌, length}
use Rattle.odd_graph.specs.Walking.{KeepsAll, no_node}
use Rattle.odd_graph.proofs.walk.Walk.next.Given as goal

abbrev pub invariant-loop-node : goal.invariant-loop-node
invariant-loop-node l = record {
  keeps : KeepsAll l.self no_node;
  arrows : l.self.arrows ≡ l.fn.self.arrows;
  seen : l.self.seen.items ≡ l.fn.self.seen.items;
}

abbrev pub decreases-loop-node : goal.decreases-loop-node
decreases-loop-node l = length l.self.work.items
