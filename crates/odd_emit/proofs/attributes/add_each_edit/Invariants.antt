use Rattle.std.proofs.Common.{◌≡◌, ◌++◌, map, take}
use Rattle.odd_emit.specs.Attributes.{edit_markup}
use Rattle.odd_emit.specs.Saying.{elements_printed}
use Rattle.odd_emit.proofs.attributes.add_each_edit.Given as goal

abbrev pub invariant-loop-ident : goal.invariant-loop-ident
invariant-loop-ident l = l.out ≡ l.fn.out ++ elements_printed (map edit_markup (take l.ident-index l.edits))
