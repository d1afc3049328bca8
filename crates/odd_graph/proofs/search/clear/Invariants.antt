use Rattle.std.proofs.Common.{take}
use Rattle.odd_graph.specs.Marking.{HasCleared}
use Rattle.odd_graph.proofs.search.clear.Given as goal

abbrev pub invariant-loop-node : goal.invariant-loop-node
invariant-loop-node l = HasCleared (take l.node-index l.nodes) l.initial.marks.items l.marks.items
