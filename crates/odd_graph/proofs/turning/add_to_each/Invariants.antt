use Rattle.std.proofs.Common.{take}
use Rattle.odd_graph.specs.Adding.{HasAdded}
use Rattle.odd_graph.proofs.turning.add_to_each.Given as goal

abbrev pub invariant-loop-other : goal.invariant-loop-other
invariant-loop-other l = HasAdded (take l.other-index l.other-items) l.node l.initial.made.items l.made.items
