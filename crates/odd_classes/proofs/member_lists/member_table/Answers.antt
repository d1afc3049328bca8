use Rattle.std.proofs.Common.{◌≡◌, subst}
use Rattle.odd_meaning.specs.Rules.{Breaks}
use Rattle.odd_classes.specs.Placing.{IsFirstAmong}
use Rattle.odd_classes.proofs.member_lists.member_table.Goals as goal

pub returns-in-Err-Loop-clause-looped : goal.returns-in-Err-Loop-clause-looped
returns-in-Err-Loop-clause-looped c = λ key is.
    let arm = c.in-Err-Loop in
    let same : arm.key ≡ key = cc in
    subst (IsFirstAmong (λ other. Breaks c.args.library.now other 13)) same (c.acyclic_classes.ensures.first arm.key arm.field-0-1 (cc (arm.is, arm.field-0-is)))
