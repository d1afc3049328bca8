use Rattle.std.proofs.Common.{◌≤◌, ◌-◌, length}
use Rattle.odd_reader.proofs.references.number_length.Given as goal

abbrev pub invariant-number : goal.invariant-number
invariant-number l = l.at ≤ length l.bytes

abbrev pub decreases-number : goal.decreases-number
decreases-number l = length l.bytes - l.at
