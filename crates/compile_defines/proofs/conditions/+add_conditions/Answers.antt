use Rattle.std.proofs.Common.{◌≡◌, ◌++◌, OnOk, sym, ap, subst, ◌∙◌}
use Rattle.compile_defines.specs.Conditions.{conditions_in}
use Rattle.compile_defines.proofs.Collected.{alternate_conditions, sequence_conditions}
use Rattle.compile_defines.proofs.conditions.+add_conditions.Goals as goal

pub add_conditions-returns-in-Sequence : goal.add_conditions-returns-in-Sequence
add_conditions-returns-in-Sequence t c =
    let given = c.add_conditions_in in
    subst (λ cs. OnOk given.result (given.new.held ≡ c.args.held.now ++ cs)) (sym (sequence_conditions c.in-Sequence.parts c.in-Sequence.bounds) ∙ ap conditions_in (sym c.in-Sequence.is))
    given.ensures

pub add_conditions-returns-in-Alternate : goal.add_conditions-returns-in-Alternate
add_conditions-returns-in-Alternate t c =
    let given = c.add_conditions_in-in-Alternate in
    subst (λ cs. OnOk given.result (given.new.held ≡ c.args.held.now ++ cs)) (sym (alternate_conditions c.in-Alternate.parts c.in-Alternate.bounds) ∙ ap conditions_in (sym c.in-Alternate.is))
    given.ensures
