use Rattle.std.proofs.Common.{length, string_bytes}
use denote.Shadow.{shadow}
use denote.Text.{Utf8}
use Rattle.odd_reader.specs.Tagging.{ArePiecesFirst}
use Rattle.odd_reader.proofs.simple_tags.value_until.Given as goal

abbrev pub invariant-reading : goal.invariant-reading
invariant-reading l = shadow (Utf8 l.rest) × ArePiecesFirst l.quote l.text (string_bytes l.value) l.rest

abbrev pub decreases-reading : goal.decreases-reading
decreases-reading l = length l.rest
