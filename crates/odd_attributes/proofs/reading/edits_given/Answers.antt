use Rattle.std.proofs.Common.{◌∙◌, IfOk, ap, subst, sym}
use Rattle.std.proofs.lemmas.Result.{IfOk-weaker}
use Rattle.std.specs.Option.{option_copied}
use Rattle.odd_attributes.proofs.EditsSaid.{edits_said}
use Rattle.odd_attributes.specs.Giving.{AreEditsOf, SaysEachEdit, SaysEachGiven}
use Rattle.odd_attributes.proofs.reading.edits_given.Goals as goal

pub returns-in-Some-clause-each : goal.returns-in-Some-clause-each
returns-in-Some-clause-each c =
    let list = c.in-Some.list.now in
    subst (λ o. IfOk c.edits_in.result (SaysEachGiven o)) (sym (ap option_copied c.in-Some.is) ∙ c.child_named.ensures)
    (IfOk-weaker c.edits_in.result (AreEditsOf list) (SaysEachEdit list) (edits_said list) c.edits_in.ensures)
