-- The words so far are the keys that were taken.
use Rattle.std.proofs.Common.{◌≡◌}
use Rattle.odd_overlay.specs.Tabled.{keys_of}
use Rattle.odd_overlay.proofs.words.words_of.Given as goal

abbrev pub invariant-loop-word : goal.invariant-loop-word
invariant-loop-word l = l.words ≡ keys_of l.yielded
