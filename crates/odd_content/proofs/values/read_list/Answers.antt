use Rattle.std.proofs.Common.{true, sym, subst}
use Rattle.odd_text.specs.Sorted.{IsSet}
use Rattle.odd_text.specs.Text.{text_cmp}
use Rattle.odd_forms.specs.Tags.{tags_in}
use Rattle.odd_overlay.specs.Marks.{IsWordAfter}
use Rattle.odd_content.proofs.SaidEach.{words_put}
use Rattle.odd_content.proofs.ValuesSaid.{marks_said}
use Rattle.odd_content.specs.Said.{SaysEach}
use Rattle.odd_content.specs.Values.{puts, value_marked}
use Rattle.odd_content.proofs.values.read_list.Goals as goal

pub returns-clause-each : goal.returns-clause-each
returns-clause-each c =
    let tags = tags_in c.args.tree.now in
    let marks = c.in_ok-marks.marks in
    let says = subst (SaysEach (value_marked true) puts tags) (sym c.in_ok-marks.ensures) (marks_said true tags) in
    words_put (value_marked true) puts tags marks c.in_ok-words_laid.field-0 says
    (subst (λ words. IsSet text_cmp (IsWordAfter marks words) c.in_ok-words_laid.field-0) c.new.ensures c.in_ok-words_laid.ensures.set)
