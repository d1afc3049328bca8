use Rattle.std.proofs.Common.{◌-◌, length}
use denote.Shadow.{shadow}
use denote.Text.{Utf8}
use Rattle.odd_reader.proofs.LongestFront.{IsFrontRead}
use Rattle.odd_reader.proofs.reader.read_tree.Given as goal

abbrev pub invariant-reading : goal.invariant-reading
invariant-reading l = shadow (Utf8 l.rest) × IsFrontRead l.bytes l.front l.rest (length l.front - length l.rest) l.reader

abbrev pub decreases-reading : goal.decreases-reading
decreases-reading l = length l.rest
