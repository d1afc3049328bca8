use Rattle.std.proofs.Common.{◌≡◌, ◌≤◌, ◌-◌, true, length, take}
use Rattle.std.specs.List.{list_all}
use Rattle.odd_tokens.specs.Characters.{is_space}
use Rattle.odd_reader.proofs.simple_tags.space_length.Given as goal

abbrev pub invariant-spacing : goal.invariant-spacing
invariant-spacing l = record {
  within : l.at ≤ length l.bytes;
  plain : list_all is_space (take l.at l.bytes) ≡ true;
}

abbrev pub decreases-spacing : goal.decreases-spacing
decreases-spacing l = length l.bytes - l.at
