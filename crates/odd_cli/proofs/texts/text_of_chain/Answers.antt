use Rattle.std.proofs.Common.{Err, Ok, ap}
use Rattle.odd_cli.specs.Words.{told}
use Rattle.odd_cli.proofs.Coming.{library_comes, none_comes, refused_come}
use Rattle.odd_cli.proofs.texts.text_of_chain.Goals as goal

pub returns-in-Broken-clause-err : goal.returns-in-Broken-clause-err
returns-in-Broken-clause-err c = λ aside trees of many replied. refused_come (told c.args.task) aside trees c.in-Broken.offence (rw c.in-Broken.is at of)

pub returns-in-Ok-clause-ok : goal.returns-in-Ok-clause-ok
returns-in-Ok-clause-ok c =
    library_comes (told c.args.task) c.args.chain c.in-Ok.library (λ aside trees of. c.in-Ok.ensures.library aside trees (rw c.in-Whole.is at of)) c.args.files c.text_of_library.result c.text_of_library.ensures.ok

pub returns-in-Ok-clause-err : goal.returns-in-Ok-clause-err
returns-in-Ok-clause-err c =
    none_comes (told c.args.task) c.args.chain c.in-Ok.library (λ aside trees of. c.in-Ok.ensures.library aside trees (rw c.in-Whole.is at of)) c.args.files c.text_of_library.result c.text_of_library.ensures.err

pub returns-in-Err-Offence-clause-err : goal.returns-in-Err-Offence-clause-err
returns-in-Err-Offence-clause-err c =
    let o = c.in-Err-Offence.offence in
    let is = ap Err c.in-Err-Offence.field-0-is in
    rw c.in-Err-Offence.field-0-is
    (λ aside trees of many replied. refused_come (told c.args.task) aside trees o (c.in-Err-Offence.ensures.offence o is aside trees (rw c.in-Whole.is at of)))
