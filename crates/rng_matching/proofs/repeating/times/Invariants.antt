use Rattle.std.proofs.Common.{◌≡◌, replicate}
use Rattle.rng_matching.proofs.repeating.times.Given as goal

abbrev pub invariant-loop : goal.invariant-loop
invariant-loop g l = l.parts ≡ replicate l.counter l.pat
