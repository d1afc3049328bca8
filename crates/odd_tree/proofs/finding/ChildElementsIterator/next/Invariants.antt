use Rattle.std.proofs.Common.{◌≡◌, length}
use Rattle.odd_tree.specs.Elements.{elements_of}
use Rattle.odd_tree.proofs.finding.ChildElementsIterator.next.Given as goal

abbrev pub invariant-loop-first : goal.invariant-loop-first
invariant-loop-first l = elements_of l.self-inside.nodes.now ≡ elements_of l.initial.self-inside.nodes.now

abbrev pub decreases-loop-first : goal.decreases-loop-first
decreases-loop-first l = length l.self-inside.nodes.now
