use Rattle.odd_decls.proofs.ItemsRead.{AreMadeSoFar}
use Rattle.odd_decls.proofs.reading.entries_of.Given as goal

abbrev pub invariant-loop-item : goal.invariant-loop-item
invariant-loop-item l = AreMadeSoFar l.of.levels.items l.ns l.of.items.items l.item-index l.entries
