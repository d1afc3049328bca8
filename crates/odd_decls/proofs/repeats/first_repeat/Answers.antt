use Rattle.odd_decls.proofs.Tied.{first_told}
use Rattle.odd_decls.proofs.repeats.first_repeat.Goals as goal

pub returns : goal.returns
returns c told =
    let least = rw c.as_slice.ensures.value at c.least_tied.ensures in
    first_told c.args.items.now c.in_ok-keyed.keyed.items _ _ (c.in_ok-keyed.ensures told) c.in_ok-sort.ensures.stable (least c.in_ok-sort.ensures.sorted)
