use Rattle.compile_core.proofs.explaining.explain.Goals as goal

pub returns-in-Err-Rule-clause-offence : goal.returns-in-Err-Rule-clause-offence
returns-in-Err-Rule-clause-offence c = λ offence e.
    let arm = c.in-Err-Rule in
    absurd (c.requires arm.key arm.rule (c.check.ensures.first arm.key arm.rule (cc (arm.is, arm.field-0-is))).is_one)
