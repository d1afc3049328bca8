use Rattle.odd_offers.specs.Telling.{has_word}
use Rattle.odd_offers.proofs.TestsTold.{bools_told}
use Rattle.odd_offers.proofs.telling.TextPart.are_alike.Goals as goal

pub returns : goal.returns
returns c = rw c.has_word.ensures (rw c.has_word-2.ensures (bools_told (has_word c.args.self.now c.args.one.now) (has_word c.args.self.now c.args.other.now)))
