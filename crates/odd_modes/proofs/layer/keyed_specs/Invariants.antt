use Rattle.std.proofs.Common.{take}
use Rattle.odd_modes.specs.Layering.{AreKeyed, specs_of}
use Rattle.odd_modes.proofs.layer.keyed_specs.Given as goal

abbrev pub invariant-loop-entry : goal.invariant-loop-entry
invariant-loop-entry l = AreKeyed (specs_of (take l.entry-index l.entries)) l.keyed.items
