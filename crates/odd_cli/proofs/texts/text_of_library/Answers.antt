use Rattle.std.proofs.Common.{sym, subst}
use Rattle.std.proofs.lemmas.Result.{IfOk-weaker}
use Rattle.std.specs.Prelude.{IfErr}
use Rattle.odd_cli.specs.Outcome.{answers, gives}
use Rattle.odd_cli.specs.Reply.{HasAccount, HasMergedOdd, HasText}
use Rattle.odd_cli.specs.Running.{IsReplied}
use Rattle.odd_cli.specs.Words.{told}
use Rattle.odd_cli.proofs.texts.text_of_library.Goals as goal

pub returns-in-Merge-clause-ok : goal.returns-in-Merge-clause-ok
returns-in-Merge-clause-ok c =
    let library = c.args.library.now in
    IfOk-weaker c.merged_odd_of.result _ _ (λ text e. subst (λ task. HasText (told task) c.args.files library (gives text)) (sym c.in-Merge.is)
    (subst (λ t. HasMergedOdd library (gives t)) (sym e) HasMergedOdd.printed))
    (rw c.library.ensures.same at c.merged_odd_of.ensures.ok)

pub returns-in-Explain-clause-ok : goal.returns-in-Explain-clause-ok
returns-in-Explain-clause-ok c =
    IfOk-weaker c.account_of.result _ _ (λ text a. subst (λ task. HasText (told task) c.args.files c.args.library.now (gives text)) (sym c.in-Explain.is) (HasAccount.account a)) c.account_of.ensures.ok

pub returns-in-Explain-clause-err : goal.returns-in-Explain-clause-err
returns-in-Explain-clause-err c =
    subst (λ task. IfErr c.account_of.result (λ status. IsReplied status → HasText (told task) c.args.files c.args.library.now (answers status))) (sym c.in-Explain.is) c.account_of.ensures.err
