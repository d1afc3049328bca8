use Rattle.std.proofs.Common.{◌++◌, codes, sym, ap, ◌∙◌}
use Rattle.odd_reader.proofs.PassedProofs.{instruction_first}
use Rattle.odd_reader.proofs.instructions.after_instruction.Goals as goal

pub returns-in-Some-strip_prefix : goal.returns-in-Some-strip_prefix
returns-in-Some-strip_prefix c =
    let first = c.in-Some.ensures.cases in
    let last = c.in-Some-strip_prefix.ensures.cases in
    let t = c.in-Some-target.ensures in
    instruction_first c.args.text.now c.in-Some.begun.now c.in-Some-target.field-0-0.now c.in-Some-target.named.now c.in-Some-until.inside.now c.in-Some-until.ended.now c.in-Some-strip_prefix.rest.now
    t.name t.other (sym c.is_set_off.ensures ∙ c.if-not-is_set_off.false) c.in-Some-until.ensures
    (first.1.1 ∙ ap (λ bs. codes "<?" ++ bs) (sym first.2)) t.parts (last.1.1 ∙ ap (λ bs. codes "?>" ++ bs) (sym last.2))
