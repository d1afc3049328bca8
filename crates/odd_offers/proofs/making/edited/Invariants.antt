use Rattle.odd_offers.proofs.OneByOne.{AreLeft}
use Rattle.odd_offers.proofs.making.edited.Given as goal

abbrev pub invariant-loop-ident : goal.invariant-loop-ident
invariant-loop-ident l = AreLeft l.own.class l.fn.edits l.fn.inherited l.ident-iterator.rest.items l.table
