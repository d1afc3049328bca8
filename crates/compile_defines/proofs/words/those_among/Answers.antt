use Rattle.std.proofs.Common.{◌∙◌, ℕ, List, ◌∷◌, ◌++◌, [], ap, sym}
use Rattle.std.specs.List.{list_any}
use Rattle.odd_text.specs.Same.{is_same}
use Rattle.compile_defines.specs.Wanted.{is_wanted}
use Rattle.compile_defines.proofs.Collected.{one_kept, one_left_out, wanted_told}
use Rattle.compile_defines.proofs.words.those_among.Goals as goal
use Rattle.compile_defines.proofs.words.those_among.Goals.{then-is_among-wanted+in_ok-copy+in_ok-push, else-is_among-wanted}

pub loop-word-preserved : goal.loop-word-preserved
loop-word-preserved c =
    let wanted = c.args.wanted in
    let word = c.word-item.result in
    let test = λ (w : List ℕ). is_wanted wanted (list_any (is_same w) c.args.others.now) in
    let among = c.is_among.ensures ∙ ap (list_any (is_same word)) c.deref.ensures.value ∙ c.in_ok-sorted.ensures.same word in
    let told = ap (is_wanted wanted) (sym among) ∙ wanted_told wanted c.is_among.result in
    elim c.if-is_among-wanted.branch [
      | then-is_among-wanted+in_ok-copy+in_ok-push w ↦
          w.left-is ∙ w.in_ok-push.ensures.ok ∙ ap (λ kept. c.loop-word.left ++ kept ∷ []) w.in_ok-copy.ensures
          ∙ one_kept test c.args.words.now _ _ _ word c.as_slice-word-items.ensures c.loop-word-test.true c.word-item.is c.loop-word.invariant (told ∙ w.if-is_among-wanted.true)
      | else-is_among-wanted w ↦
          w.left-is
          ∙ one_left_out test c.args.words.now _ _ _ word c.as_slice-word-items.ensures c.loop-word-test.true c.word-item.is c.loop-word.invariant (told ∙ w.if-is_among-wanted.false)
    ]
