use Rattle.rng_allows.proofs.Texts.{IsReplacing}
use Rattle.rng_allows.proofs.treating.replaced.Given as goal

abbrev pub invariant-loop-c : goal.invariant-loop-c
invariant-loop-c l = IsReplacing l.made l.c-iterator.rest.now l.text
