use Rattle.std.proofs.Common.{subst}
use Rattle.compile_core.specs.Schema.{IsStartOffence}
use Rattle.compile_core.proofs.compiling.compile.Goals as goal

pub returns-in-Ok-clause-offence : goal.returns-in-Ok-clause-offence
returns-in-Ok-clause-offence c = λ offence e. subst (λ library. IsStartOffence library c.args.start.now offence) c.in-Ok.ensures.same (c.compile_checked.ensures.offence offence e)

pub returns-in-Err-Rule-clause-offence : goal.returns-in-Err-Rule-clause-offence
returns-in-Err-Rule-clause-offence c = λ offence e.
    let arm = c.in-Err-Rule in
    absurd (c.requires arm.key arm.rule (c.check.ensures.first arm.key arm.rule (cc (arm.is, arm.field-0-is))).is_one)
