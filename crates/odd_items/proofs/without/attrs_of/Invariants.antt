use Rattle.std.proofs.Common.{◌≡◌, take}
use Rattle.odd_items.proofs.without.attrs_of.Given as goal

abbrev pub invariant-loop-attr : goal.invariant-loop-attr
invariant-loop-attr l = l.attrs ≡ take l.attr-index l.tree.attrs
