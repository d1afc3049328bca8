use Rattle.std.proofs.Common.{◌≡◌, ◌++◌, map, take}
use Rattle.odd_emit.specs.Components.{member_markup}
use Rattle.odd_emit.specs.Saying.{elements_printed}
use Rattle.odd_emit.proofs.components.add_members.Given as goal

abbrev pub invariant-loop-key : goal.invariant-loop-key
invariant-loop-key l = l.out ≡ l.fn.out ++ elements_printed (map member_markup (take l.key-index l.classes))
