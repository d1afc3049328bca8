use Rattle.std.proofs.Common.{◌≡◌, Ok, Some, ap, ◌∙◌}
use Rattle.rng_values.proofs.making.make_item.Goals as goal

pub returns-in-Some-clause-rule : goal.returns-in-Some-clause-rule
returns-in-Some-clause-rule c rule same =
    let one : c.in-Some.rule ≡ rule = cc in c.item_fault.ensures.rule rule (c.in_ok-rule.was ∙ ap Ok (c.in-Some.is ∙ ap Some one))
