use Rattle.odd_classes.proofs.Scanning.{NoneUpTo}
use Rattle.odd_classes.proofs.WrongNames.{NamesOne}
use Rattle.odd_classes.proofs.rules.check_names.Given as goal

abbrev pub invariant-loop-key : goal.invariant-loop-key
invariant-loop-key l = NoneUpTo l.library (NamesOne l.library l.wrong) l.key-index
