use Rattle.std.proofs.Common.{◌≡◌, ◌&&◌, not, ℕ, List, take}
use Rattle.odd_text.specs.Same.{is_among}
use Rattle.odd_modes.specs.Index.{has_text}
use Rattle.odd_modes.proofs.named.without.Given as goal

abbrev pub invariant-loop-word : goal.invariant-loop-word
invariant-loop-word l = (ident : List ℕ) → has_text l.idents ident ≡ (has_text l.initial.idents ident && not (is_among (take l.word-index l.word-items) ident))
