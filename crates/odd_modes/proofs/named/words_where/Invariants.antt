use Rattle.std.proofs.Common.{◌≡◌, ◌&&◌, not, cond, ℕ, List, take}
use Rattle.odd_text.specs.Same.{is_among}
use Rattle.odd_modes.specs.Index.{has_text}
use Rattle.odd_modes.proofs.named.words_where.Given as goal

abbrev pub invariant-loop-word : goal.invariant-loop-word
invariant-loop-word l =
    (ident : List ℕ) → has_text l.chosen ident ≡ (is_among (take l.word-index l.word-items) ident && cond l.are_idents (has_text l.idents ident) (not (has_text l.idents ident)))
