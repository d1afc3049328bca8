use Rattle.std.proofs.Common.{◌≡◌, ◌+◌, ◌++◌, take}
use Rattle.std.specs.Prelude.{flat_map, sum_by}
use Rattle.compile_defines.specs.Contents.{listed_in}
use Rattle.compile_defines.specs.Blocks.{element_defines}
use Rattle.compile_defines.specs.Compiled.{offers_in}
use Rattle.compile_defines.specs.Elements.{define_elements}
use Rattle.compile_defines.proofs.defines.add_elements.Given as goal

abbrev pub invariant-loop-key : goal.invariant-loop-key
invariant-loop-key l = record {
  pushed : l.defines ≡ l.initial.defines ++ flat_map (element_defines l.library l.conditions (listed_in l.members) (offers_in l.offers)) (take l.key-index l.library.parts);
  taken : l.initial.budget.left + sum_by define_elements l.initial.defines ≡ l.budget.left + sum_by define_elements l.defines;
}
