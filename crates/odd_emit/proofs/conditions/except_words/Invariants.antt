use Rattle.std.proofs.Common.{◌≡◌, ◌++◌, ◌≤◌, drop, zero}
use denote.Text.{Utf8}
use denote.Shadow.{shadow}
use Rattle.odd_tree.specs.Names.{xml_namespace}
use Rattle.odd_emit.specs.Contents.{prefixed_from}
use Rattle.odd_emit.proofs.conditions.except_words.Given as goal

abbrev pub invariant-loop-name : goal.invariant-loop-name
invariant-loop-name l =
    shadow (Utf8 l.before) × (l.count ≤ l.name-index)
    × (l.words ++ prefixed_from l.before l.count (drop l.name-index l.condition.names) ≡ l.condition.spaces ++ prefixed_from xml_namespace zero l.condition.names)
