use Rattle.std.proofs.Common.{◌≡◌, ap, subst, sym, ◌∙◌, Err}
use Rattle.odd_cli.specs.Outcome.{answers}
use Rattle.odd_cli.specs.Reply.{HasAccount, asked_offence}
use Rattle.odd_cli.specs.declared.status.Status.TheVariants as status
use Rattle.odd_cli.proofs.texts.account_of.Goals as goal

pub returns-in-Err-Offence-clause-err : goal.returns-in-Err-Offence-clause-err
returns-in-Err-Offence-clause-err c =
    let refused = c.in-Err-Offence.ensures.offence c.in-Err-Offence.offence (ap Err c.in-Err-Offence.field-0-is) in
    let moved = c.in_file.ensures in
    let same : c.in_file.result ≡ asked_offence c.args.files c.args.ident.now = λ n. record {
      file = moved.file n;
      who = (moved.who ∙ refused.asked) n;
      rule = (moved.rule ∙ refused.rule) n;
    } in
    λ replied. subst (λ o. HasAccount c.args.ident.now c.args.files c.args.library.now (answers (status.Refused o))) (sym same) (HasAccount.asked_missing refused.missing)
