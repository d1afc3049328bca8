use Rattle.std.proofs.Common.{◌≡◌, length}
use Rattle.odd_graph.specs.Walking.{KeepsAll, no_node}
use Rattle.odd_graph.proofs.walk.Walk.take.Given as goal

abbrev pub invariant-loop-part : goal.invariant-loop-part
invariant-loop-part l = record {
  keeps : KeepsAll l.self no_node;
  arrows : l.self.arrows ≡ l.fn.self.arrows;
  seen : l.self.seen.items ≡ l.fn.self.seen.items;
  work : l.self.work.items ≡ l.fn.self.work.items;
}

abbrev pub decreases-loop-part : goal.decreases-loop-part
decreases-loop-part l = length l.self.parts.items
