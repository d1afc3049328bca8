use Rattle.std.proofs.Common.{◌≡◌, ◌<◌, ℕ, []}
use Rattle.odd_graph.specs.Marking.{IsMarked}
use Rattle.odd_graph.specs.Walking.{KeepsAll, no_node}
use Rattle.odd_graph.proofs.cycles.on_cycles.Given as goal

abbrev pub invariant-loop-node : goal.invariant-loop-node
invariant-loop-node l = record {
  keeps : KeepsAll l.walk no_node;
  arrows : l.walk.arrows.now ≡ l.fn.arrows;
  stack : l.walk.stack.items ≡ [];
  seen : (other : ℕ) → other < l.node → IsMarked l.walk.seen.items other;
}
