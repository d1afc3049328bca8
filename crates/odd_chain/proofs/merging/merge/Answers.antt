use Rattle.std.proofs.Common.{◌≡◌, ◌+◌, ◌++◌, suc, length, take, drop, refl, sym, ap, ◌∙◌, subst, arith}
use Rattle.std.proofs.lemmas.List.{length-take-le, take-append-drop, take_all}
use Rattle.std.proofs.lemmas.Result.{err_from_is_err_and}
use Rattle.std.specs.Prelude.{All}
use Rattle.odd_library.specs.Formed.{IsFormedDoc}
use Rattle.odd_text.proofs.InList.{ends}
use Rattle.odd_chain.specs.Offences.{OffendsIn}
use Rattle.odd_chain.specs.Order.{IsFirst}
use Rattle.odd_chain.specs.Reading.{IsFirstOfLibrary, IsMerged}
use Rattle.odd_chain.proofs.MergedDocs.{asked_none, empty_merged, first_of_more, item_refused, library_refused, one_merged}
use Rattle.odd_chain.proofs.merging.merge.Goals as goal

pub loop-doc-init : goal.loop-doc-init
loop-doc-init c = record { numbered = refl; merged = empty_merged c.in_ok-library.library c.in_ok-library.ensures.empty; formed = λ all. c.in_ok-library.ensures.formed }

pub loop-doc-preserved : goal.loop-doc-preserved
loop-doc-preserved c =
    let docs = c.as_slice-doc-items.result.now in
    let i = c.loop-doc.doc-index in
    let so_far = c.loop-doc.invariant.merged in
    let made = c.in_ok-library-2.library in
    record {
      numbered = omega (arith, c.loop-doc.invariant.numbered);
      merged = subst (λ ds. IsMerged ds made) (sym (ends docs i c.doc-item.result c.loop-doc-test.true c.doc-item.is))
          (one_merged (take i docs) c.doc-item.result c.loop-doc.library (asked_none (take i docs) c.loop-doc.library so_far (c.in_ok-checked_after.ensures.sound refl)) so_far.after made
          (c.in_ok-library-2.ensures.sound refl) (c.in_ok-library-2.ensures.library (take i docs) so_far.after));
      formed = λ all. c.in_ok-library-2.ensures.formed (c.loop-doc.invariant.formed all) (subst IsFormedDoc (sym c.doc-item.is) (all i c.doc-item.result c.loop-doc-test.true));
    }

pub returns-in_err-checked_after-clause-offence : goal.returns-in_err-checked_after-clause-offence
returns-in_err-checked_after-clause-offence c = λ offence is.
    let docs = c.as_slice-doc-items.result.now in
    let i = c.loop-doc.doc-index in
    let number : c.loop-doc.file ≡ length (take i docs) = omega (arith, c.loop-doc.invariant.numbered, c.loop-doc-test.true, length-take-le i docs (omega (arith, c.loop-doc-test.true))) in
    let given = err_from_is_err_and c.from_residual-in_err-checked_after.result c.from_residual-in_err-checked_after.ensures.1 in
    let first = c.in_err-checked_after.ensures.offence offence (cc (given.1, given.2, is)) in
    subst (λ ds. IsFirst (OffendsIn ds) offence) (take-append-drop i docs ∙ c.as_slice-doc-items.ensures)
    (first_of_more (take i docs) (drop i docs) offence
    (library_refused (take i docs) c.loop-doc.library c.loop-doc.invariant.merged offence (subst (λ n. IsFirstOfLibrary c.loop-doc.library n offence) number first)))

pub returns-in_err-library-2-clause-offence : goal.returns-in_err-library-2-clause-offence
returns-in_err-library-2-clause-offence c = λ offence is.
    let docs = c.as_slice-doc-items.result.now in
    let i = c.loop-doc.doc-index in
    let doc = c.doc-item.result in
    let so_far = c.loop-doc.invariant.merged in
    let number : c.loop-doc.file + 1 ≡ suc (length (take i docs)) = omega (arith, c.loop-doc.invariant.numbered, c.loop-doc-test.true, length-take-le i docs (omega (arith, c.loop-doc-test.true))) in
    let given = err_from_is_err_and c.from_residual-in_err-library-2.result c.from_residual-in_err-library-2.ensures.1 in
    let first = c.in_err-library-2.ensures.offence offence (cc (given.1, given.2, is)) in
    let upto = ends docs i doc c.loop-doc-test.true c.doc-item.is in
    subst (λ ds. IsFirst (OffendsIn ds) offence) (ap (λ ds. ds ++ drop (i + 1) docs) (sym upto) ∙ take-append-drop (i + 1) docs ∙ c.as_slice-doc-items.ensures)
    (first_of_more _ (drop (i + 1) docs) offence
    (item_refused (take i docs) doc c.loop-doc.library (asked_none (take i docs) c.loop-doc.library so_far (c.in_ok-checked_after.ensures.sound refl)) so_far.after (c.loop-doc.file + 1) offence number first))

pub returns-in_err-checked_after-2-clause-offence : goal.returns-in_err-checked_after-2-clause-offence
returns-in_err-checked_after-2-clause-offence c = λ offence is.
    let docs = c.as_slice-doc-items.result.now in
    let i = c.loop-doc.doc-index in
    let all = take_all i docs c.loop-doc-test.false in
    let number : c.loop-doc.file ≡ length docs = omega (arith, c.loop-doc.invariant.numbered, c.loop-doc-test.false) in
    let given = err_from_is_err_and c.from_residual-in_err-checked_after-2.result c.from_residual-in_err-checked_after-2.ensures.1 in
    let first = c.in_err-checked_after-2.ensures.offence offence (cc (given.1, given.2, is)) in
    subst (λ ds. IsFirst (OffendsIn ds) offence) c.as_slice-doc-items.ensures
    (library_refused docs c.loop-doc.library (subst (λ ds. IsMerged ds c.loop-doc.library) all c.loop-doc.invariant.merged) offence
    (subst (λ n. IsFirstOfLibrary c.loop-doc.library n offence) number first))

pub returns-clause-sound : goal.returns-clause-sound
returns-clause-sound c = λ is.
    let docs = c.as_slice-doc-items.result.now in
    let all = take_all c.loop-doc.doc-index docs c.loop-doc-test.false ∙ c.as_slice-doc-items.ensures in
    asked_none c.args.docs.now c.loop-doc.library (subst (λ ds. IsMerged ds c.loop-doc.library) all c.loop-doc.invariant.merged) (c.in_ok-checked_after-2.ensures.sound refl)

pub returns-clause-formed : goal.returns-clause-formed
returns-clause-formed c = λ all. c.loop-doc.invariant.formed (subst (All IsFormedDoc) (sym c.as_slice-doc-items.ensures) all)
