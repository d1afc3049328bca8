use Rattle.std.proofs.Common.{ℕ, ◌-◌, ◌<◌, length, get_or}
use Rattle.odd_graph.specs.Marking.{IsMarked}
use Rattle.odd_graph.proofs.passing.Passing.is_free.Given as goal

abbrev pub invariant-loop-next : goal.invariant-loop-next
invariant-loop-next l = (at : ℕ) → at < l.passed → IsMarked l.left (get_or l.nexts at (length l.left)) → ⊥

abbrev pub decreases-loop-next : goal.decreases-loop-next
decreases-loop-next l = length l.nexts - l.passed
