use Rattle.std.proofs.Common.{◌≡◌, ◌+◌, map, take}
use Rattle.std.specs.Prelude.{sum_by}
use Rattle.compile_defines.specs.Compiled.{space_part}
use Rattle.compile_defines.specs.Elements.{part_elements}
use Rattle.compile_defines.proofs.any_element.space_parts.Given as goal

abbrev pub invariant-loop-space : goal.invariant-loop-space
invariant-loop-space l = record {
  pushed : l.parts ≡ map (space_part l.condition) (take l.space-index l.space-items);
  taken : l.initial.budget.left ≡ l.budget.left + sum_by part_elements l.parts;
}
