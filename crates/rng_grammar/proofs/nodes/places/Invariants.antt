use Rattle.rng_grammar.proofs.Weighing.{PlacesSoFar}
use Rattle.rng_grammar.proofs.nodes.places.Given as goal

abbrev pub invariant-loop-place : goal.invariant-loop-place
invariant-loop-place l = PlacesSoFar l.defines l.place l.places
