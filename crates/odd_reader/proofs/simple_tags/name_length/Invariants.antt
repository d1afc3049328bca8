use Rattle.std.proofs.Common.{◌≡◌, ◌≤◌, ◌-◌, true, length, take}
use Rattle.std.specs.List.{list_all}
use Rattle.odd_reader.specs.Tagging.{is_plain_part}
use Rattle.odd_reader.proofs.simple_tags.name_length.Given as goal

abbrev pub invariant-naming : goal.invariant-naming
invariant-naming l = record {
  within : l.at ≤ length l.bytes;
  plain : list_all is_plain_part (take l.at l.bytes) ≡ true;
}

abbrev pub decreases-naming : goal.decreases-naming
decreases-naming l = length l.bytes - l.at
