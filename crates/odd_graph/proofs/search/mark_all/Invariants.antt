use Rattle.std.proofs.Common.{take}
use Rattle.odd_graph.specs.Marking.{HasMarked}
use Rattle.odd_graph.proofs.search.mark_all.Given as goal

abbrev pub invariant-loop-next : goal.invariant-loop-next
invariant-loop-next l = HasMarked (take l.next-index l.next-items) l.initial.marks.items l.marks.items l.initial.nodes.items l.nodes.items
