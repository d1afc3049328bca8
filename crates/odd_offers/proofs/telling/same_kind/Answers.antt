use Rattle.std.proofs.Common.{rules}
use Rattle.odd_offers.specs.Telling.{kind_test}
use Rattle.odd_offers.proofs.Lists.{told}
use Rattle.odd_offers.proofs.telling.same_kind.Goals as goal

pub returns-in-Some-Some : goal.returns-in-Some-Some
returns-in-Some-Some c = rw c.in-Some-Some.is-0 (rw c.in-Some-Some.is-1 (told kind_test c.eq.result c.in-Some-Some.one.kind c.in-Some-Some.other.kind (search rules)))
