use Rattle.std.proofs.Common.{subst}
use Rattle.std.proofs.lemmas.Result.{IfOk-weaker}
use Rattle.odd_classes.proofs.Asking.{one_element, right_at}
use Rattle.odd_classes.specs.Offered.{IsRight}
use Rattle.odd_classes.proofs.answers.answer_at.Goals as goal

pub returns : goal.returns
returns c =
    let library = c.args.library.now in
    let inherited = c.args.inherited in
    let all = c.entries.ensures in
    let is = c.requires in
    IfOk-weaker c.answer_of.result _ _
    (λ made of element here.
    subst (λ e. IsRight library e made) (one_element library inherited.place is.0 element (is.1, is.2) here)
    (right_at library c.entries.result.now inherited.place is.0 is.1 inherited.table made _ all.rising all.all is.2 is.3 of)) c.answer_of.ensures
