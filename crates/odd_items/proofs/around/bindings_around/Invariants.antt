use Rattle.odd_items.proofs.Levels.{LeadsOut, scopes}
use Rattle.odd_items.proofs.around.bindings_around.Given as goal

abbrev pub invariant-loop : goal.invariant-loop
invariant-loop l = LeadsOut l.levels l.fn.level l.next (scopes l.path.items) l.index
