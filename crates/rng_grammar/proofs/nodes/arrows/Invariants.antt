use Rattle.std.proofs.Common.{take}
use Rattle.rng_grammar.specs.Weighing.{AreArrows}
use Rattle.rng_grammar.proofs.nodes.arrows.Given as goal

abbrev pub invariant-loop-define : goal.invariant-loop-define
invariant-loop-define l = AreArrows l.places (take l.define-index l.defines) l.arrows.items
