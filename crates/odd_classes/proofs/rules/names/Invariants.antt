use Rattle.std.proofs.Common.{take}
use Rattle.odd_text.proofs.InList.{StandsOnce}
use Rattle.odd_classes.specs.Placing.{IsWrong}
use Rattle.odd_classes.proofs.rules.names.Given as goal

abbrev pub invariant-loop-key : goal.invariant-loop-key
invariant-loop-key l = StandsOnce (IsWrong l.library l.wrong) (take l.key-index l.key-items) → ⊥
