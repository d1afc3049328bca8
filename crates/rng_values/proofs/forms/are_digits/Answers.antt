use Rattle.std.specs.Char.{is_ascii_digit}
use Rattle.rng_values.proofs.Naming.{none_passes, some_pass}
use Rattle.rng_values.proofs.forms.are_digits.Goals as goal

pub returns-then-not-is_empty : goal.returns-then-not-is_empty
returns-then-not-is_empty c = some_pass is_ascii_digit c.args.text.now c.is_empty.result c.has_only_digits.result c.utf8.text c.is_empty.ensures c.if-not-is_empty.true c.has_only_digits.ensures

pub returns-else-not-is_empty : goal.returns-else-not-is_empty
returns-else-not-is_empty c = none_passes is_ascii_digit c.args.text.now c.is_empty.result c.is_empty.ensures c.if-not-is_empty.false
