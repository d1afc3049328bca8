use Rattle.std.proofs.Common.{◌≡◌, ◌++◌, take}
use Rattle.std.specs.Prelude.{flat_map}
use Rattle.compile_core.specs.Account.{offer_line}
use Rattle.compile_core.proofs.lines.add_offers.Given as goal

abbrev pub invariant-loop-offer : goal.invariant-loop-offer
invariant-loop-offer l = l.out ≡ l.fn.out ++ flat_map offer_line (take l.offer-index l.offers)
