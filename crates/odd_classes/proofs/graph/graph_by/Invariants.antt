use Rattle.odd_classes.specs.Placing.{keys_by}
use Rattle.odd_classes.proofs.Linked.{ArrowsSoFar}
use Rattle.odd_classes.proofs.graph.graph_by.Given as goal

abbrev pub invariant-loop-part : goal.invariant-loop-part
invariant-loop-part l = ArrowsSoFar (keys_by l.link) l.entries l.arrows.items l.part-index
