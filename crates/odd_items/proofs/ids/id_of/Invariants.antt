use Rattle.std.proofs.Common.{◌≡◌, drop}
use Rattle.odd_items.specs.Groups.{id_among}
use Rattle.odd_items.proofs.ids.id_of.Given as goal

abbrev pub invariant-loop-attr : goal.invariant-loop-attr
invariant-loop-attr l = id_among (drop l.attr-index l.attr-items) ≡ id_among l.tree.attrs
