use Rattle.odd_classes.proofs.OfferTables.{IsMadeSoFar}
use Rattle.odd_classes.proofs.offer_lists.by_ident.Given as goal

abbrev pub invariant-loop-place : goal.invariant-loop-place
invariant-loop-place l = IsMadeSoFar l.entries l.fn.answers.items l.place-iterator.count l.place-iterator.iter.rest.items l.made
