use Rattle.std.specs.Str.{chars}
use Rattle.rng_values.specs.Treated.{collapsed as the_collapsed}
use Rattle.rng_values.proofs.Collapsing.{IsCounted}
use Rattle.rng_values.proofs.white_space.collapsed_length.Given as goal

abbrev pub invariant-loop-c : goal.invariant-loop-c
invariant-loop-c l = IsCounted l.length l.gap l.c-iterator.rest.now (the_collapsed (chars l.text))
