use Rattle.std.proofs.Common.{◌≡◌, ◌-◌, take, length}
use Rattle.odd_graph.specs.Placing.{AreHeld, IsNone, Places}
use Rattle.odd_graph.proofs.ordering.Placing.settle.Given as goal

abbrev pub invariant-loop-node : goal.invariant-loop-node
invariant-loop-node l = record {
  places : Places l.self;
  same : l.self.passing.arrows ≡ l.fn.self.passing.arrows;
  held : AreHeld l.self.passing.arrows.now l.self.left.items (IsNone (take l.place l.self.order.items));
}

abbrev pub decreases-loop-node : goal.decreases-loop-node
decreases-loop-node l = length l.self.passing.arrows.now - l.place
