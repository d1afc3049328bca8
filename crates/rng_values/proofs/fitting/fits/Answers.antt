use Rattle.std.proofs.Common.{subst}
use Rattle.std.specs.Str.{chars}
use Rattle.rng_values.specs.Trimmed.{IsTrimmed}
use Rattle.rng_values.proofs.Naming.{through}
use Rattle.rng_values.proofs.Spaceless.{trimmed_form}
use Rattle.rng_values.proofs.fitting.fits.Goals as goal

pub returns : goal.returns
returns c =
    let cut = subst (λ text. IsTrimmed (chars text) (chars c.trimmed.result.now)) c.as_str.ensures c.trimmed.ensures in
    through c.has_form.ensures (trimmed_form c.args.kind (chars c.args.text.now) (chars c.trimmed.result.now) cut)
