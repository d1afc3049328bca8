use Rattle.std.proofs.Common.{◌≡◌, ◌≤◌, ◌-◌, true, length, take}
use Rattle.std.specs.List.{list_all}
use Rattle.odd_reader.specs.Stepping.{is_plain_byte}
use Rattle.odd_reader.proofs.runs.plain_length.Given as goal

abbrev pub invariant-plain : goal.invariant-plain
invariant-plain l = record {
  within : l.at ≤ length l.bytes;
  plain : list_all is_plain_byte (take l.at l.bytes) ≡ true;
}

abbrev pub decreases-plain : goal.decreases-plain
decreases-plain l = length l.bytes - l.at
