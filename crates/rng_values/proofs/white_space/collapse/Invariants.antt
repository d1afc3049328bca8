use Rattle.std.specs.Str.{chars, encode_utf8_all}
use Rattle.std.specs.String.{string_bytes}
use Rattle.rng_values.specs.Treated.{collapsed as the_collapsed}
use Rattle.rng_values.proofs.Collapsing.{IsOnTheWay}
use Rattle.rng_values.proofs.white_space.collapse.Given as goal

abbrev pub invariant-loop-c : goal.invariant-loop-c
invariant-loop-c l = IsOnTheWay (string_bytes l.collapsed) l.gap l.c-iterator.rest.now (encode_utf8_all (the_collapsed (chars l.text)))
