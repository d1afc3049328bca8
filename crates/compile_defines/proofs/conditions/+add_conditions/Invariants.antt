use Rattle.std.proofs.Common.{◌≡◌, ◌++◌, take}
use Rattle.std.specs.Prelude.{flat_map}
use Rattle.compile_defines.specs.Conditions.{conditions_in}
use Rattle.compile_defines.proofs.conditions.+add_conditions.Given as goal

abbrev pub invariant-add_conditions_in-loop-part : goal.invariant-add_conditions_in-loop-part
invariant-add_conditions_in-loop-part l = l.held ≡ l.initial.held ++ flat_map conditions_in (take l.part-index l.parts)
