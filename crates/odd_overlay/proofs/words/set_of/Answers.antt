-- With a word more the set has one word more.
use Rattle.std.proofs.Common.{sym, ap, cond, Some, ◌∙◌}
use Rattle.std.specs.Ordering.{eq_by_cmp}
use Rattle.odd_text.specs.Text.{text_cmp}
use Rattle.odd_overlay.proofs.WordEntries.{word_pushed}
use Rattle.odd_overlay.proofs.words.set_of.Goals as goal

pub loop-word-preserved : goal.loop-word-preserved
loop-word-preserved c = λ q.
    c.in_ok-put.ensures.finds q ∙ ap (cond (eq_by_cmp text_cmp q c.in-Some.word) (Some tt)) (c.loop-word.invariant q) ∙ sym (word_pushed c.loop-word.yielded c.in-Some.word q)
