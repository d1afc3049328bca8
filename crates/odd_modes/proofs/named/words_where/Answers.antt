use Rattle.std.proofs.Common.{Bool, true, false, not, cond, ℕ, List, ap, sym, ◌∙◌}
use Rattle.std.proofs.Math.Bool.{beq}
use Rattle.std.specs.BTreeMap.{is_at}
use Rattle.odd_text.specs.Text.{text_cmp}
use Rattle.odd_modes.specs.Index.{has_text}
use Rattle.odd_modes.proofs.TextSets.{told_test, word_failed, word_passed}
use Rattle.odd_modes.proofs.named.words_where.Goals as goal
use Rattle.odd_modes.proofs.named.words_where.Goals.{then-contains-are_idents+in_ok-insert, else-contains-are_idents}

pub loop-word-preserved : goal.loop-word-preserved
loop-word-preserved c = λ ident.
    let words = c.as_slice-word-items.result.now in
    let word = c.word-item.result in
    let was = c.loop-word.chosen in
    let test : List ℕ → Bool = λ text. cond c.args.are_idents (has_text c.args.idents.now text) (not (has_text c.args.idents.now text)) in
    let told = c.contains.ensures ∙ ap (has_text c.args.idents.now) c.as_str.ensures in
    elim c.if-contains-are_idents.branch [
      | then-contains-are_idents+in_ok-insert w ↦
          let text = w.as_str-then-contains-are_idents in
          ap (λ s. has_text s ident) w.chosen-is
          ∙ word_passed words c.loop-word.word-index word ident c.loop-word-test.true c.word-item.is test (has_text was ident) (has_text w.insert.new.self ident)
          (told_test _ c.args.are_idents true (ap (λ b. beq b c.args.are_idents) (sym told) ∙ w.if-contains-are_idents.true))
          (w.in_ok-insert.ensures.updates.0 (record { ref_ptr = text.result.ref_ptr; now = ident }) ∙ ap (λ t. cond (is_at (text_cmp t) ident) true (has_text was ident)) text.ensures)
          (c.loop-word.invariant ident)
      | else-contains-are_idents w ↦
          ap (λ s. has_text s ident) w.chosen-is
          ∙ word_failed words c.loop-word.word-index word ident c.loop-word-test.true c.word-item.is test (has_text was ident)
          (told_test _ c.args.are_idents false (ap (λ b. beq b c.args.are_idents) (sym told) ∙ w.if-contains-are_idents.false))
          (c.loop-word.invariant ident)
    ]
