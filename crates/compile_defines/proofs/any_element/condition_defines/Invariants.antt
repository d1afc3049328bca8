use Rattle.std.proofs.Common.{◌≡◌, ◌+◌, map, take}
use Rattle.std.specs.Prelude.{sum_by}
use Rattle.compile_defines.specs.Compiled.{condition_define}
use Rattle.compile_defines.specs.Elements.{define_elements}
use Rattle.compile_defines.proofs.any_element.condition_defines.Given as goal

abbrev pub invariant-loop-condition : goal.invariant-loop-condition
invariant-loop-condition l = record {
  pushed : l.defines ≡ map (condition_define l.conditions) (take l.condition-index l.condition-items);
  taken : l.initial.budget.left ≡ l.budget.left + sum_by define_elements l.defines;
}
