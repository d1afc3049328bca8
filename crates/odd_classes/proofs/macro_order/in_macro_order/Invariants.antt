use Rattle.std.proofs.Common.{take}
use Rattle.odd_classes.proofs.MacrosOrdered.{MacrosAt}
use Rattle.odd_classes.proofs.macro_order.in_macro_order.Given as goal

abbrev pub invariant-loop-place : goal.invariant-loop-place
invariant-loop-place l = MacrosAt l.library (take l.place-index l.place-items) l.idents
