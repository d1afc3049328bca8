use Rattle.std.proofs.Common.{take}
use Rattle.std.specs.List.{All}
use Rattle.odd_decls.proofs.Tied.{AreKeyed}
use Rattle.odd_decls.specs.Items.{IsTold}
use Rattle.odd_decls.proofs.repeats.keyed_places.Given as goal

abbrev pub invariant-loop-place : goal.invariant-loop-place
invariant-loop-place l = All IsTold l.items → AreKeyed (take l.place l.items) l.keyed.items
