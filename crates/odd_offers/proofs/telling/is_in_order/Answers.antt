use Rattle.odd_offers.proofs.TestsTold.{order_told}
use Rattle.odd_offers.proofs.telling.is_in_order.Goals as goal

pub returns : goal.returns
returns c = order_told c.args.words.now c.is_sorted.result c.is_sorted.ensures.cases
