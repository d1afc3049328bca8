use Rattle.std.proofs.Common.{◌↔◌, IsTrue, subst}
use Rattle.std.specs.Str.{chars}
use Rattle.rng_values.specs.Lexical.{IsDecimalPart}
use Rattle.rng_values.proofs.Naming.{through}
use Rattle.rng_values.proofs.Numerals.{decimal_tested}
use Rattle.rng_values.proofs.forms.is_decimal.Goals as goal

pub returns : goal.returns
returns c = through (subst (λ digits. IsTrue c.is_decimal_part.result ↔ IsDecimalPart digits) c.split_sign.ensures.rest c.is_decimal_part.ensures) (decimal_tested (chars c.args.text.now))
