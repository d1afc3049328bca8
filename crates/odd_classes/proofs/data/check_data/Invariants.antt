use Rattle.odd_classes.proofs.MixesData.{MixesData}
use Rattle.odd_classes.proofs.Scanning.{NoneUpTo}
use Rattle.odd_classes.proofs.data.check_data.Given as goal

abbrev pub invariant-loop-key : goal.invariant-loop-key
invariant-loop-key l = NoneUpTo l.library (MixesData l.library) l.key-index
