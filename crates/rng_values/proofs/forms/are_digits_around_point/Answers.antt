use Rattle.std.proofs.Common.{◌&&◌, ap, sym, ◌∙◌}
use Rattle.std.specs.Str.{chars}
use Rattle.rng_values.proofs.Naming.{empty_chars, same_test, some_chars, through}
use Rattle.rng_values.proofs.Numerals.{joined_digits}
use Rattle.rng_values.proofs.forms.are_digits_around_point.Goals as goal

pub returns-then-is_empty : goal.returns-then-is_empty
returns-then-is_empty c = rw (empty_chars c.args.whole.now (sym c.is_empty.ensures ∙ c.if-is_empty.true)) c.are_digits.ensures

pub returns-then-has_only_digits : goal.returns-then-has_only_digits
returns-then-has_only_digits c =
    let some = some_chars c.args.whole.now c.utf8.whole (sym c.is_empty.ensures ∙ c.if-is_empty.false) in
    let last = c.has_only_digits-then-has_only_digits in
    through (same_test (sym (ap (λ b. b && last.result) c.if-has_only_digits.true)))
    (joined_digits (chars c.args.whole.now) (chars c.args.fraction.now) some c.has_only_digits.result last.result c.has_only_digits.ensures last.ensures)
