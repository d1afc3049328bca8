use Rattle.std.proofs.Common.{◌≡◌, ◌++◌, ◌≤◌, drop, zero}
use denote.Text.{Utf8}
use denote.Shadow.{shadow}
use Rattle.odd_tree.specs.Names.{xml_namespace}
use Rattle.odd_emit.specs.Contents.{prefixes_from}
use Rattle.odd_emit.specs.Saying.{declared_printed}
use Rattle.odd_emit.proofs.conditions.add_prefixes.Given as goal

abbrev pub invariant-loop-name : goal.invariant-loop-name
invariant-loop-name l =
    shadow (Utf8 l.before) × (l.count ≤ l.name-index)
    × (l.out ++ declared_printed (prefixes_from l.before l.count (drop l.name-index l.condition.names)) ≡ l.fn.out ++ declared_printed (prefixes_from xml_namespace zero l.condition.names))
