-- The marks were laid over a map of the words.
use Rattle.std.proofs.Common.{◌≡◌, ap, subst, sym, ◌∙◌}
use Rattle.std.proofs.lemmas.Result.{IfOk-weaker}
use Rattle.odd_text.specs.Text.{text_cmp}
use Rattle.odd_text.specs.Sorted.{IsSet}
use Rattle.odd_overlay.specs.Marks.{IsWordAfter, words_laid as the_words_laid}
use Rattle.odd_overlay.specs.Tabled.{keys_of}
use Rattle.odd_overlay.proofs.Laid.{laid_set}
use Rattle.odd_overlay.proofs.WordEntries.{same_words}
use Rattle.odd_overlay.proofs.words.words_laid.Goals as goal

pub returns : goal.returns
returns c =
    let marks = c.args.marks in
    let words = c.args.words in
    let laid = ap keys_of c.in_ok-made.ensures ∙ same_words marks c.in_ok-set.set words c.in_ok-set.ensures in
    record {
      value = IfOk-weaker c.words_of.result (λ made. made ≡ keys_of c.in_ok-made.made) (λ made. made ≡ the_words_laid marks words) (λ made is. is ∙ laid) c.words_of.ensures;
      set = IfOk-weaker c.words_of.result (λ made. made ≡ keys_of c.in_ok-made.made) (IsSet text_cmp (IsWordAfter marks words))
          (λ made is. subst (IsSet text_cmp (IsWordAfter marks words)) (sym (is ∙ laid)) (laid_set marks words)) c.words_of.ensures;
    }
