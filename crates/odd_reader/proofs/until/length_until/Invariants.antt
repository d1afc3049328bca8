use Rattle.std.proofs.Common.{◌≡◌, ◌≤◌, ◌-◌, true, length, take}
use Rattle.std.specs.List.{list_all}
use Rattle.odd_reader.specs.Tagging.{is_byte_but}
use Rattle.odd_reader.proofs.until.length_until.Given as goal

abbrev pub invariant-until : goal.invariant-until
invariant-until l = record {
  within : l.at ≤ length l.bytes;
  plain : list_all (is_byte_but l.mark) (take l.at l.bytes) ≡ true;
}

abbrev pub decreases-until : goal.decreases-until
decreases-until l = length l.bytes - l.at
