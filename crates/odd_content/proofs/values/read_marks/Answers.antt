use Rattle.std.proofs.Common.{◌≡◌, false, sym, subst}
use Rattle.std.proofs.lemmas.Result.{IfOk-weaker}
use Rattle.odd_forms.specs.Tags.{tags_in}
use Rattle.odd_content.proofs.ValuesSaid.{marks_said}
use Rattle.odd_content.specs.Said.{SaysEach}
use Rattle.odd_content.specs.Values.{marks_in, puts, value_marked}
use Rattle.odd_content.proofs.values.read_marks.Goals as goal

pub returns-clause-each : goal.returns-clause-each
returns-clause-each c =
    let tags = tags_in c.args.tree.now in
    IfOk-weaker c.marks_of.result (λ marks. marks ≡ marks_in false tags) (SaysEach (value_marked false) puts tags)
    (λ marks e. subst (SaysEach (value_marked false) puts tags) (sym e) (marks_said false tags)) c.marks_of.ensures
