use Rattle.odd_decls.proofs.KeptFound.{AreItemsSoFar}
use Rattle.odd_decls.proofs.file_items.items_at.Given as goal

abbrev pub invariant-loop-kept : goal.invariant-loop-kept
invariant-loop-kept l = AreItemsSoFar l.found l.kept-index l.items.items
