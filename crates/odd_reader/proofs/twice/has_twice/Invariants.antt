use Rattle.std.proofs.Common.{◌≡◌, ℕ, ◌+◌, ◌<◌, false, get_or}
use Rattle.odd_reader.proofs.twice.has_twice.Given as goal

abbrev pub invariant-loop-at : goal.invariant-loop-at
invariant-loop-at g l = (k : ℕ) (d : g.row.T.Denot) → k + 1 < l.at → g.T.PartialEq.eq (get_or l.items.items k d) (get_or l.items.items (k + 1) d) ≡ false
