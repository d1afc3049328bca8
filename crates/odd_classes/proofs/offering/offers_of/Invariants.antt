use Rattle.std.proofs.Common.{◌≡◌, take}
use Rattle.odd_classes.specs.Offered.{offers_of}
use Rattle.odd_classes.proofs.offering.offers_of.Given as goal

abbrev pub invariant-loop-ident : goal.invariant-loop-ident
invariant-loop-ident l = l.made ≡ offers_of (take l.ident-index l.ident-items)
