use Rattle.std.proofs.Common.{◌≡◌, ◌+◌, ◌++◌, replicate}
use Rattle.std.specs.Prelude.{sum_by}
use Rattle.compile_defines.specs.Budget.{pattern_elements}
use Rattle.compile_defines.proofs.repeating.add_copies.Given as goal

abbrev pub invariant-loop : goal.invariant-loop
invariant-loop l = record {
  pushed : l.parts ≡ l.initial.parts ++ replicate l.counter l.part;
  taken : l.initial.budget.left ≡ l.budget.left + sum_by pattern_elements (replicate l.counter l.part);
}
