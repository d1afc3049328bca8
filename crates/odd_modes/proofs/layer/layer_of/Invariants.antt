use Rattle.std.proofs.Common.{take}
use Rattle.odd_modes.specs.Layering.{still_to_put}
use Rattle.odd_modes.proofs.Layering.{AreActs}
use Rattle.odd_modes.proofs.layer.layer_of.Given as goal

abbrev pub invariant-loop-key : goal.invariant-loop-key
invariant-loop-key l = AreActs l.references l.entries (take l.key-index l.key-items) l.layer (still_to_put l.specs.items)
