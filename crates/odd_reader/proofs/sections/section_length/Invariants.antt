use Rattle.std.proofs.Common.{◌≡◌, ◌≤◌, ◌-◌, true, length, take}
use Rattle.std.specs.List.{list_all}
use Rattle.odd_reader.specs.Tagging.{is_section_byte}
use Rattle.odd_reader.proofs.sections.section_length.Given as goal

abbrev pub invariant-section : goal.invariant-section
invariant-section l = record {
  within : l.at ≤ length l.bytes;
  plain : list_all is_section_byte (take l.at l.bytes) ≡ true;
}

abbrev pub decreases-section : goal.decreases-section
decreases-section l = length l.bytes - l.at
