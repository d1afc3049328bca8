use Rattle.std.proofs.Common.{◌≡◌, ◌+◌, map, take}
use Rattle.std.specs.Prelude.{sum_by}
use Rattle.compile_defines.specs.Budget.{pattern_elements}
use Rattle.compile_defines.specs.Contents.{content_pattern, listed_in}
use Rattle.compile_defines.proofs.contents.+content_pattern.Given as goal

abbrev pub invariant-part_patterns-loop-part : goal.invariant-part_patterns-loop-part
invariant-part_patterns-loop-part l = record {
  pushed : l.made ≡ map (content_pattern l.library l.conditions (listed_in l.members)) (take l.part-index l.parts);
  taken : l.initial.budget.left ≡ l.budget.left + sum_by pattern_elements l.made;
}
