use Rattle.std.proofs.lemmas.Result.{err_from_is_err_and}
use Rattle.std.proofs.Common.{refl}
use Rattle.odd_chain.proofs.Chained.{doc_merged, doc_refused, file_refused, rule_refused}
use Rattle.odd_chain.proofs.Files.{refused_more}
use Rattle.odd_chain.proofs.chain.Merged.with.Goals as goal

pub returns-in_err-checked_after-clause-offence : goal.returns-in_err-checked_after-clause-offence
returns-in_err-checked_after-clause-offence c = λ offence is trees first end formed m number.
    let given = err_from_is_err_and c.from_residual.result c.from_residual.ensures.1 in
    refused_more trees c.args.tree offence
    (rule_refused c.args.aside trees c.args.self m offence (c.in_err-checked_after.ensures.offence offence (cc (given.1, given.2, is))))

pub returns-in_err-doc-clause-offence : goal.returns-in_err-doc-clause-offence
returns-in_err-doc-clause-offence c = λ offence is trees first end formed m number.
    let given = err_from_is_err_and c.from_residual-in_err-doc.result c.from_residual-in_err-doc.ensures.1 in
    file_refused c.args.aside trees c.args.self m (c.in_ok-checked_after.ensures.sound refl) c.args.tree c.args.file number offence
    (c.in_err-doc.ensures.offence offence first end formed (cc (given.1, given.2, is)))

pub returns-in_err-library-clause-offence : goal.returns-in_err-library-clause-offence
returns-in_err-library-clause-offence c = λ offence is trees first end formed m number.
    let given = err_from_is_err_and c.from_residual-in_err-library.result c.from_residual-in_err-library.ensures.1 in
    doc_refused c.args.aside trees c.args.self m (c.in_ok-checked_after.ensures.sound refl) c.args.tree c.args.file number c.in_ok-doc.doc
    (c.in_ok-doc.ensures.ok first end formed) offence (c.in_err-library.ensures.offence offence (cc (given.1, given.2, is)))

pub returns-clause-merged : goal.returns-clause-merged
returns-clause-merged c = λ trees first end formed m number.
    doc_merged c.args.aside trees c.args.self m (c.in_ok-checked_after.ensures.sound refl) c.args.tree c.args.file number c.in_ok-doc.doc
    (c.in_ok-doc.ensures.ok first end formed) c.in_ok-library.library (c.in_ok-library.ensures.sound refl) c.in_ok-library.ensures.library c.saturating_add.result c.saturating_add.ensures
