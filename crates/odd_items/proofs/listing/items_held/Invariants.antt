use Rattle.odd_items.proofs.Held.{HeldSoFar}
use Rattle.odd_items.proofs.listing.items_held.Given as goal

abbrev pub invariant-loop-kept : goal.invariant-loop-kept
invariant-loop-kept l = HeldSoFar l.found l.marks l.kept-iterator.a.rest.now l.kept-iterator.b.rest.now l.items.items
