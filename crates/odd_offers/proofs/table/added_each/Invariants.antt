use Rattle.std.proofs.Common.{◌≡◌}
use Rattle.odd_offers.specs.Tables.{added_each}
use Rattle.odd_offers.proofs.table.added_each.Given as goal

abbrev pub invariant-loop-offer : goal.invariant-loop-offer
invariant-loop-offer l = added_each l.made l.offer-iterator.iter.rest.now ≡ added_each l.fn.offers l.more
