use Rattle.std.proofs.Common.{length}
use denote.Shadow.{shadow}
use denote.Text.{Utf8}
use Rattle.odd_reader.specs.Tagging.{AreAttributesFirst}
use Rattle.odd_reader.proofs.simple_tags.TagReader.attributes.Given as goal

abbrev pub invariant-attributes : goal.invariant-attributes
invariant-attributes l = shadow (Utf8 l.rest) × AreAttributesFirst l.text l.attrs l.rest

abbrev pub decreases-attributes : goal.decreases-attributes
decreases-attributes l = length l.rest
