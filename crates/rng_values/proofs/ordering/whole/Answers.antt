use Rattle.std.proofs.Common.{arith}
use Rattle.rng_values.proofs.Digits.{bytes_behind}
use Rattle.rng_values.proofs.Numerals.{integer_digits}
use Rattle.rng_values.proofs.ordering.whole.Goals as goal

pub trimmed-requires : goal.trimmed-requires
trimmed-requires c = grind (arith, bytes_behind, integer_digits)

pub returns-clause-value : goal.returns-clause-value
returns-clause-value c = grind (arith, bytes_behind)
