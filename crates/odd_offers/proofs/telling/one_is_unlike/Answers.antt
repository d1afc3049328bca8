use Rattle.std.proofs.Common.{sym}
use Rattle.odd_text.proofs.InList.{standing}
use Rattle.odd_offers.proofs.telling.one_is_unlike.Goals as goal

pub are_alike-requires-clause-other : goal.are_alike-requires-clause-other
are_alike-requires-clause-other g c =
    let item = c.offer-item in
    rw c.get.ensures (c.requires.offers item.result (standing c.args.offers.now item.result (c.loop-offer.offer-index, c.loop-offer-test.true, sym item.is)))
