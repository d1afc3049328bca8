use Rattle.std.proofs.Common.{◌≡◌, ◌++◌}
use Rattle.odd_overlay.proofs.sorted.map_of.Given as goal

abbrev pub invariant-loop-key : goal.invariant-loop-key
invariant-loop-key g l = l.made ++ l.key-iterator ≡ l.fn.entries.entries
