use Rattle.std.proofs.Common.{take}
use Rattle.odd_decls.specs.FileItems.{AreByPlace}
use Rattle.odd_decls.proofs.file_items.by_place.Given as goal

abbrev pub invariant-loop-item : goal.invariant-loop-item
invariant-loop-item l = AreByPlace (take l.item-index l.items) l.placed
