use Rattle.std.proofs.Common.{◌≡◌, take}
use Rattle.odd_text.proofs.table.TableTryCopy.copy.Given as goal

abbrev pub invariant-loop-pair : goal.invariant-loop-pair
invariant-loop-pair g l = l.pairs.items ≡ take l.pair-index l.self
