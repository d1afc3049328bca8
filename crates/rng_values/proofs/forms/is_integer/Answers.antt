use Rattle.std.proofs.Common.{◌↔◌, IsTrue, subst}
use Rattle.std.specs.Str.{chars}
use Rattle.rng_values.specs.Lexical.{AreDigits}
use Rattle.rng_values.proofs.Naming.{through}
use Rattle.rng_values.proofs.Numerals.{integer_tested}
use Rattle.rng_values.proofs.forms.is_integer.Goals as goal

pub returns : goal.returns
returns c = through (subst (λ digits. IsTrue c.are_digits.result ↔ AreDigits digits) c.split_sign.ensures.rest c.are_digits.ensures) (integer_tested (chars c.args.text.now))
