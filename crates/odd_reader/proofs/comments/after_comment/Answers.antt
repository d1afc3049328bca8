use Rattle.std.proofs.Common.{◌++◌, codes, sym, ap, ◌∙◌}
use Rattle.odd_reader.proofs.PassedProofs.{comment_first}
use Rattle.odd_reader.proofs.comments.after_comment.Goals as goal

pub returns-in-Some-strip_prefix : goal.returns-in-Some-strip_prefix
returns-in-Some-strip_prefix c =
    let first = c.in-Some.ensures.cases in
    let last = c.in-Some-strip_prefix.ensures.cases in
    comment_first c.args.text.now c.in-Some.begun.now c.in-Some-until.field-0-0.now c.in-Some-until.ended.now c.in-Some-strip_prefix.rest.now c.in-Some-until.ensures
    (first.1.1 ∙ ap (λ bs. codes "<!--" ++ bs) (sym first.2)) (last.1.1 ∙ ap (λ bs. codes "-->" ++ bs) (sym last.2))
