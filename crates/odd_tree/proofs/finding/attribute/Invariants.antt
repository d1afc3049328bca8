use Rattle.std.proofs.Common.{◌≡◌, drop}
use Rattle.odd_tree.specs.Elements.{attribute_value}
use Rattle.odd_tree.proofs.finding.attribute.Given as goal

abbrev pub invariant-loop-attr : goal.invariant-loop-attr
invariant-loop-attr l = attribute_value (drop l.attr-index l.attr-items) l.local ≡ attribute_value l.attrs l.local
