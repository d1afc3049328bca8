use Rattle.std.proofs.Common.{◌≡◌, ◌++◌, take}
use Rattle.std.specs.List.{flat_map}
use Rattle.odd_emit.specs.Saying.{spaced}
use Rattle.odd_emit.proofs.saying.joined.Given as goal

abbrev pub invariant-loop-word : goal.invariant-loop-word
invariant-loop-word l = l.text ≡ l.initial.text ++ flat_map spaced (take l.word-index l.rest)
