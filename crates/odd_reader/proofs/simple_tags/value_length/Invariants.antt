use Rattle.std.proofs.Common.{◌≡◌, ◌≤◌, ◌-◌, true, length, take}
use Rattle.std.specs.List.{list_all}
use Rattle.odd_reader.specs.Tagging.{is_plain_byte_in}
use Rattle.odd_reader.proofs.simple_tags.value_length.Given as goal

abbrev pub invariant-reading : goal.invariant-reading
invariant-reading l = record {
  within : l.at ≤ length l.bytes;
  plain : list_all (is_plain_byte_in l.quote) (take l.at l.bytes) ≡ true;
}

abbrev pub decreases-reading : goal.decreases-reading
decreases-reading l = length l.bytes - l.at
