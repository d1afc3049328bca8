use Rattle.std.proofs.Common.{◌≤◌, length, ap, subst, ◌∙◌}
use Rattle.std.specs.Prelude.{flat_map}
use Rattle.std.proofs.lemmas.List.{take_all}
use Rattle.std.proofs.lemmas.Result.{IfOk-weaker}
use Rattle.odd_text.specs.Standing.{StandsIn}
use Rattle.odd_text.specs.Sorted.{IsSet}
use Rattle.odd_content.specs.ConditionOrder.{condition_cmp}
use Rattle.compile_defines.specs.Conditions.{IsConditionOf}
use Rattle.compile_defines.proofs.Collected.{conditions_at, conditions_set}
use Rattle.compile_defines.proofs.conditions.conditions_of.Goals as goal

pub returns-clause-set : goal.returns-clause-set
returns-clause-set c =
    let library = c.args.library.now in
    let done = subst (λ entries. length entries ≤ c.loop-entry.entry-index) c.entries-entry-items.ensures.all c.loop-entry-test.false in
    let all = c.loop-entry.invariant ∙ ap (flat_map conditions_at) (take_all c.loop-entry.entry-index library.parts done) in
    IfOk-weaker c.sorted.result (IsSet condition_cmp (StandsIn c.loop-entry.held)) (IsSet condition_cmp (IsConditionOf library))
    (λ made is. conditions_set library c.loop-entry.held made all is) c.sorted.ensures
