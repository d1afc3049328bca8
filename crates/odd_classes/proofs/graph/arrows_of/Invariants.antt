use Rattle.std.proofs.Common.{take}
use Rattle.odd_classes.specs.Placing.{ArePlacesOf}
use Rattle.odd_classes.proofs.graph.arrows_of.Given as goal

abbrev pub invariant-loop-key : goal.invariant-loop-key
invariant-loop-key l = ArePlacesOf l.entries (take l.key-index l.key-items) l.nodes
