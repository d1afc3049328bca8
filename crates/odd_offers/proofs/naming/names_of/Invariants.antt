use Rattle.std.proofs.Common.{◌≡◌, take}
use Rattle.odd_offers.specs.Names.{names_of}
use Rattle.odd_offers.proofs.naming.names_of.Given as goal

abbrev pub invariant-loop-ident : goal.invariant-loop-ident
invariant-loop-ident l = l.names ≡ names_of (take l.ident-index l.givens)
