use Rattle.std.proofs.Common.{◌≡◌, filter, take}
use Rattle.std.specs.List.{list_any}
use Rattle.odd_text.specs.Same.{is_same}
use Rattle.compile_defines.specs.Wanted.{is_wanted}
use Rattle.compile_defines.proofs.words.those_among.Given as goal

abbrev pub invariant-loop-word : goal.invariant-loop-word
invariant-loop-word l = l.left ≡ filter (λ word. is_wanted l.wanted (list_any (is_same word) l.others)) (take l.word-index l.words)
