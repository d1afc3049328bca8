use Rattle.std.proofs.Common.{take}
use Rattle.rng_grammar.proofs.Weighing.{WeighedSoFar}
use Rattle.rng_grammar.proofs.nodes.weights.Given as goal

abbrev pub invariant-loop-place : goal.invariant-loop-place
invariant-loop-place l = WeighedSoFar l.grammar (take l.place-index l.place-items) l.weights.items
