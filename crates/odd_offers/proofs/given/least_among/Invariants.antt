use Rattle.std.proofs.Common.{◌≡◌, drop}
use Rattle.odd_offers.specs.Answers.{least_from}
use Rattle.odd_offers.proofs.given.least_among.Given as goal

abbrev pub invariant-loop-other : goal.invariant-loop-other
invariant-loop-other l = least_from l.best (drop l.other-index l.others) ≡ least_from l.first l.others
