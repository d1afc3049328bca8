use Rattle.std.proofs.Common.{◌≡◌, ◌≤◌, ◌-◌, true, length, take}
use Rattle.std.specs.List.{list_all}
use Rattle.rng_matching.specs.Staying.{is_known}
use Rattle.rng_matching.proofs.staying.known_length.Given as goal

abbrev pub invariant-known : goal.invariant-known
invariant-known l = record {
  within : l.passed ≤ length l.bytes;
  known : list_all (is_known l.known l.at) (take l.passed l.bytes) ≡ true;
}

abbrev pub decreases-known : goal.decreases-known
decreases-known l = length l.bytes - l.passed
