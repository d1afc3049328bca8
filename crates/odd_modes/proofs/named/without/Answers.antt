use Rattle.std.proofs.Common.{cond, false, ap, ◌∙◌}
use Rattle.std.specs.BTreeMap.{is_at}
use Rattle.odd_text.specs.Text.{text_cmp}
use Rattle.odd_modes.specs.Index.{has_text}
use Rattle.odd_modes.proofs.TextSets.{word_out}
use Rattle.odd_modes.proofs.named.without.Goals as goal

pub loop-word-preserved : goal.loop-word-preserved
loop-word-preserved c = λ ident.
    word_out c.as_slice-word-items.result.now c.loop-word.word-index c.word-item.result ident c.loop-word-test.true c.word-item.is (has_text c.args.idents ident) (has_text c.loop-word.idents ident) _
    (c.remove.ensures.updates.0 (record { ref_ptr = c.as_str.result.ref_ptr; now = ident }) ∙ ap (λ w. cond (is_at (text_cmp w) ident) false (has_text c.loop-word.idents ident)) c.as_str.ensures)
    (c.loop-word.invariant ident)
