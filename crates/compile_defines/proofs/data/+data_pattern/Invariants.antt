use Rattle.std.proofs.Common.{◌≡◌, ◌+◌, map, take}
use Rattle.std.specs.Prelude.{sum_by}
use Rattle.compile_defines.specs.Budget.{pattern_elements}
use Rattle.compile_defines.specs.Data.{data_pattern}
use Rattle.compile_defines.proofs.data.+data_pattern.Given as goal

abbrev pub invariant-data_patterns-loop-part : goal.invariant-data_patterns-loop-part
invariant-data_patterns-loop-part l = record {
  pushed : l.made ≡ map data_pattern (take l.part-index l.parts);
  taken : l.initial.budget.left ≡ l.budget.left + sum_by pattern_elements l.made;
}
