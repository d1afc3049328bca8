use Rattle.std.proofs.Common.{◌≡◌, ◌++◌, map, take}
use Rattle.odd_emit.specs.Contents.{part_markup}
use Rattle.odd_emit.specs.Saying.{elements_printed}
use Rattle.odd_emit.proofs.contents.+parts.Given as goal

abbrev pub invariant-add_parts-loop-part : goal.invariant-add_parts-loop-part
invariant-add_parts-loop-part l = l.out ≡ l.fn.out ++ elements_printed (map part_markup (take l.part-index l.parts))
