-- The set so far has the words that were taken.
use Rattle.std.proofs.Common.{◌≡◌, ℕ, List}
use Rattle.std.specs.FinMap.{find}
use Rattle.odd_text.specs.Text.{text_cmp}
use Rattle.odd_overlay.specs.Marks.{word_entries}
use Rattle.odd_overlay.proofs.words.set_of.Given as goal

abbrev pub invariant-loop-word : goal.invariant-loop-word
invariant-loop-word l = (q : List ℕ) → find text_cmp q l.set ≡ find text_cmp q (word_entries l.yielded)
