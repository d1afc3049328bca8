use Rattle.std.proofs.Common.{take}
use Rattle.std.specs.Option.{option_copied}
use Rattle.compile_core.specs.Schema.{IsLeast}
use Rattle.compile_core.proofs.compiling.least_missing.Given as goal

abbrev pub invariant-loop-word : goal.invariant-loop-word
invariant-loop-word l = IsLeast l.library (take l.word-index l.start) (option_copied l.least)
