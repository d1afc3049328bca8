use Rattle.std.proofs.Common.{◌≡◌, ◌++◌, map, take}
use Rattle.odd_emit.specs.Attributes.{mark_markup}
use Rattle.odd_emit.specs.Saying.{elements_printed}
use Rattle.odd_emit.proofs.lists.add_marks.Given as goal

abbrev pub invariant-loop-value : goal.invariant-loop-value
invariant-loop-value l = l.out ≡ l.fn.out ++ elements_printed (map mark_markup (take l.value-index l.marks))
