use Rattle.rng_values.proofs.Ordered.{zero_told}
use Rattle.rng_values.proofs.ordering.is_zero.Goals as goal

pub returns : goal.returns
returns c = zero_told c.args.digits.now c.is_empty.result c.is_empty.ensures c.requires
