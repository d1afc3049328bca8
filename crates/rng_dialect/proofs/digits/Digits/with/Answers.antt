use Rattle.rng_dialect.proofs.Capped.{digit_kept}
use Rattle.rng_dialect.proofs.digits.Digits.with.Goals as goal

pub returns : goal.returns
returns c digits h =
    let more = digit_kept digits c.args.digit c.args.self.count c.args.self.value c.requires.digit h.count h.value in
    record { count = more.0; value = more.1 }
