use Rattle.std.proofs.Common.{◌≡◌, length}
use Rattle.odd_classes.proofs.OfferTables.{FilledUpTo}
use Rattle.odd_classes.specs.Inheriting.{Sweeps}
use Rattle.odd_classes.proofs.answers.answers.Given as goal

abbrev pub invariant-loop-at : goal.invariant-loop-at
invariant-loop-at l = Sweeps l.library l.holders l.at × FilledUpTo l.library l.holders.order.items l.at l.answers.items × (length l.holders.order.items ≡ l.at-end)
