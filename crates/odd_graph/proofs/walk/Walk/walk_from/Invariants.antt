use Rattle.std.proofs.Common.{◌≡◌, ◌⊎◌, ℕ, not, count_by}
use Rattle.odd_graph.specs.Marking.{IsMarked}
use Rattle.odd_graph.specs.Walking.{KeepsAll, no_node}
use Rattle.odd_graph.proofs.walk.Walk.walk_from.Given as goal

abbrev pub invariant-loop-next : goal.invariant-loop-next
invariant-loop-next l = record {
  keeps : KeepsAll l.self no_node;
  arrows : l.self.arrows ≡ l.fn.self.arrows;
  seen : (other : ℕ) → IsMarked l.fn.self.seen.items other ⊎ (l.fn.node ≡ other) → IsMarked l.self.seen.items other;
}

abbrev pub decreases-loop-next : goal.decreases-loop-next
decreases-loop-next l = count_by not l.self.seen.items
