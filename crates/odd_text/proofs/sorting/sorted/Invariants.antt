use Rattle.std.proofs.Common.{◌≡◌, ◌++◌}
use Rattle.odd_text.proofs.sorting.sorted.Given as goal

abbrev pub invariant-loop-item : goal.invariant-loop-item
invariant-loop-item g l = l.sorted ++ l.item-iterator.rest.items ≡ l.initial.item-iterator.rest.items
