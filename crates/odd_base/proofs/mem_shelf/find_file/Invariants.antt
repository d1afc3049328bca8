use Rattle.std.proofs.Common.{◌≡◌, drop}
use Rattle.odd_base.specs.Memory.{pairs_of}
use Rattle.std.specs.FinMap as finite
use Rattle.odd_text.specs.Text.{text_cmp}
use Rattle.odd_base.proofs.mem_shelf.find_file.Given as goal

abbrev pub invariant-loop-number : goal.invariant-loop-number
invariant-loop-number l = finite.find text_cmp l.name (pairs_of (drop l.number l.files)) ≡ finite.find text_cmp l.name (pairs_of l.files)
