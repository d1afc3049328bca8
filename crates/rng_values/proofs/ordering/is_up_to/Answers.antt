use Rattle.std.specs.Str.{chars}
use Rattle.rng_values.proofs.Ordered.{IsRead, read_told}
use Rattle.rng_values.proofs.ordering.is_up_to.Goals as goal

pub returns : goal.returns
returns c =
    let one : IsRead (chars c.args.one.now) c.whole.result.0 c.whole.result.1.now =
    record { integer = c.requires.one; sign = c.whole.ensures.negative; value = c.whole.ensures.value }
    in
    let other : IsRead (chars c.args.other.now) c.whole-2.result.0 c.whole-2.result.1.now =
    record { integer = c.requires.other; sign = c.whole-2.ensures.negative; value = c.whole-2.ensures.value }
    in
    read_told (chars c.args.one.now) (chars c.args.other.now) c.whole.result.0 c.whole-2.result.0 c.whole.result.1.now c.whole-2.result.1.now c.is_whole_up_to.result one other c.is_whole_up_to.ensures
