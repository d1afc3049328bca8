use Rattle.std.proofs.Common.{◌≡◌, ◌++◌, map, take}
use Rattle.odd_emit.specs.Components.{entry_markup}
use Rattle.odd_emit.specs.Saying.{elements_printed}
use Rattle.odd_emit.proofs.printing.add_components.Given as goal

abbrev pub invariant-loop-key : goal.invariant-loop-key
invariant-loop-key l = l.out ≡ l.fn.out ++ elements_printed (map entry_markup (take l.key-index l.parts))
