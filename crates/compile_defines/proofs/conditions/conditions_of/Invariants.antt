use Rattle.std.proofs.Common.{◌≡◌, take}
use Rattle.std.specs.Prelude.{flat_map}
use Rattle.compile_defines.proofs.Collected.{conditions_at}
use Rattle.compile_defines.proofs.conditions.conditions_of.Given as goal

abbrev pub invariant-loop-entry : goal.invariant-loop-entry
invariant-loop-entry l = l.held ≡ flat_map conditions_at (take l.entry-index l.library.parts)
