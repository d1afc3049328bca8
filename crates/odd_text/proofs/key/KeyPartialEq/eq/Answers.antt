use Rattle.odd_text.specs.KeyOrder.{tied_is_same}
use Rattle.odd_text.proofs.key.KeyPartialEq.eq.Goals as goal

pub returns-clause-same : goal.returns-clause-same
returns-clause-same c = rw c.is_eq.ensures (tied_is_same c.args.self.now c.args.other.now c.cmp.result c.cmp.ensures)
