use Rattle.std.specs.Str.Iter.{char_indices_offset, char_indices_rest}
use Rattle.rng_dialect.proofs.Fronts.{HasTaken}
use Rattle.rng_dialect.proofs.reading.read_pattern.Given as goal

abbrev pub invariant-loop-at : goal.invariant-loop-at
invariant-loop-at l = HasTaken l.text (char_indices_rest l.at-iterator) (char_indices_offset l.at-iterator) l.reader
