use Rattle.std.proofs.Common.{lit<}
use Rattle.std.specs.Str.{chars}
use Rattle.rng_values.proofs.Naming.{through}
use Rattle.rng_values.proofs.Numerals.{pointed_tested, unpointed_tested}
use Rattle.rng_values.proofs.Splitting.{cut_at, none_cut}
use Rattle.rng_values.proofs.forms.is_decimal_part.Goals as goal

pub returns-in-Some : goal.returns-in-Some
returns-in-Some c =
    let text = c.args.text.now in
    let cut = cut_at 0x2E text c.in-Some.whole.now c.in-Some.fraction.now c.utf8.text (lit< tt) c.in-Some.ensures.cases in
    through c.are_digits_around_point.ensures (pointed_tested text c.in-Some.whole.now c.in-Some.fraction.now cut)

pub returns-in-None : goal.returns-in-None
returns-in-None c = through c.are_digits.ensures (unpointed_tested (chars c.args.text.now) (none_cut 0x2E c.args.text.now c.utf8.text c.in-None.ensures.cases))
