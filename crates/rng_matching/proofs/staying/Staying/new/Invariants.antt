use Rattle.rng_matching.specs.Staying.{IsNew}
use Rattle.rng_matching.proofs.staying.Staying.new.Given as goal

abbrev pub invariant-loop : goal.invariant-loop
invariant-loop l = IsNew l.known.items
