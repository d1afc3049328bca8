use Rattle.std.proofs.Common.{◌≡◌, ◌+◌, ◌++◌, take}
use Rattle.std.specs.Prelude.{flat_map, sum_by}
use Rattle.compile_defines.specs.Contents.{listed_in}
use Rattle.compile_defines.specs.Blocks.{class_defines}
use Rattle.compile_defines.specs.Elements.{define_elements}
use Rattle.compile_defines.proofs.defines.add_classes.Given as goal

abbrev pub invariant-loop-key : goal.invariant-loop-key
invariant-loop-key l = record {
  pushed : l.defines ≡ l.initial.defines ++ flat_map (class_defines (listed_in l.members)) (take l.key-index l.library.parts);
  taken : l.initial.budget.left + sum_by define_elements l.initial.defines ≡ l.budget.left + sum_by define_elements l.defines;
}
