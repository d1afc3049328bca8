use Rattle.std.proofs.Common.{◌≡◌, length}
use Rattle.odd_graph.specs.Marking.{IsMarked}
use Rattle.odd_graph.specs.Walking.{KeepsAll}
use Rattle.odd_graph.proofs.walk.Walk.join.Given as goal

abbrev pub invariant-loop-part : goal.invariant-loop-part
invariant-loop-part l = record {
  keeps : KeepsAll l.self (λ other. l.fn.node ≡ other);
  arrows : l.self.arrows ≡ l.fn.self.arrows;
  seen : l.self.seen.items ≡ l.fn.self.seen.items;
  work : l.self.work.items ≡ l.fn.self.work.items;
  stack : l.self.stack.items ≡ l.fn.self.stack.items;
  marked : IsMarked l.self.marks.items l.fn.node;
}

abbrev pub decreases-loop-part : goal.decreases-loop-part
decreases-loop-part l = length l.self.parts.items
