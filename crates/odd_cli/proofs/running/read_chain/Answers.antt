use Rattle.std.proofs.Common.{◌≡◌, ◌+◌, suc, [], ap, refl, subst, sym, ◌∙◌, arith, Result, Some}
use Rattle.std.proofs.lemmas.Result.{IfOk-at_ok}
use Rattle.std.specs.Prelude.{IfErr, IfOk, IsTrue}
use Rattle.odd_base.specs.Shelf.{FileMap}
use Rattle.odd_text.specs.Count.{next_count}
use Rattle.odd_cli.specs.Reading.{IsOfFile}
use Rattle.odd_cli.specs.Reply.{FileStops, GiveTrees}
use Rattle.odd_cli.specs.Running.{IsReplied}
use Rattle.odd_cli.specs.declared.status.Status.{Status}
use Rattle.odd_tree.specs.Formed.{IsFormed}
use Rattle.odd_tree.specs.declared.tree.Tree.{Tree}
use Rattle.odd_cli.proofs.Answering.{chain_with, faults_next, goes_later, next_counted, of_next, own_fault, stops_next, tree_read, whole_more}
use Rattle.odd_cli.proofs.running.read_chain.Goals as goal

pub loop-name-init : goal.loop-name-init
loop-name-init g c = record {
  numbered = refl;
  read = record { trees = []; is_chain = c.in-Ok.ensures.empty c.args.aside; many = refl; formed = c.in-Ok.ensures.formed; given = λ files h. GiveTrees.none };
  begun = refl;
  few_reads = omega arith;
  whole = λ files h file first last. absurd (omega arith);
  ended = λ files h none. absurd (omega (arith, none));
  goes_on = (refl, refl, omega arith, omega arith, omega arith);
}

pub loop-name-preserved : goal.loop-name-preserved
loop-name-preserved g c =
    let inv = c.loop-name.invariant in
    let made = c.in-Ok-with_file.ensures.ok in
    let read = c.read_file-read.ensures in
    let begun = read.begins ∙ ap next_count inv.begun ∙ next_counted (g.F.Shelf.begins c.args.shelf.now) c.loop-name.name-index in
    let ended = λ (files : FileMap) (h : g.F.Shelf.holds c.args.shelf.now ≡ Some files). IfOk-at_ok (λ t. _) made.1 (read.to_the_end files (inv.goes_on.0 ∙ h)) in
    let later = goes_later g.F.Shelf.holds g.F.Shelf.steady g.F.Shelf.faults g.F.Shelf.begins g.F.Shelf.reads g.F.Shelf.rest c.args.shelf.now c.loop-name.shelf _ inv.goes_on read.goes_on in
    record {
      numbered = omega arith;
      read = chain_with (g.F.Shelf.holds c.args.shelf.now) c.args.names.now c.loop-name.name-index c.name-item.result c.loop-name-test.true c.name-item.is made.0 c.loop-name.chain c.in-Ok-with_file.made inv.read
          (tree_read _ _ c.name-item.result c.read_file-read.result made.0 inv.goes_on.0 made.1 read.ok) (λ trees first end f of e. made.2 trees first end f of (omega (arith, e, inv.numbered)))
          (λ first end f of. c.in-Ok-with_file.ensures.formed first end (subst (λ (r : Result Tree Status). IfOk r (IsFormed first end)) (sym made.1) f) of);
      begun = begun;
      few_reads = omega (arith, read.few_reads, inv.few_reads);
      whole = λ files h. whole_more g.F.Shelf.holds g.F.Shelf.steady g.F.Shelf.faults g.F.Shelf.begins g.F.Shelf.reads g.F.Shelf.rest c.loop-name.name-index c.args.shelf.now c.loop-name.shelf _
          (inv.whole files h) inv.goes_on read.goes_on begun (ended files h);
      ended = λ files h some. ended files h;
      goes_on = later;
    }

pub returns-in-Err-with_file-clause-err : goal.returns-in-Err-with_file-clause-err
returns-in-Err-with_file-clause-err g c = λ files h replied.
    let inv = c.loop-name.invariant in
    let number : c.loop-name.file + 1 ≡ suc c.loop-name.name-index = omega (arith, inv.numbered) in
    stops_next (g.F.Shelf.holds c.args.shelf.now) c.args.names.now c.loop-name.name-index c.name-item.result c.loop-name-test.true c.name-item.is c.loop-name.chain files h inv.read
    c.read_file-read.result c.in-Err-with_file.status
    (subst (λ n. IfErr c.read_file-read.result (λ t. IsReplied t → FileStops files c.name-item.result n t)) number (c.read_file-read.ensures.err files (inv.goes_on.0 ∙ h))) c.in-Err-with_file.ensures.err replied

pub returns-in-Err-with_file-clause-read_place : goal.returns-in-Err-with_file-clause-read_place
returns-in-Err-with_file-clause-read_place g c = λ files number h is.
    let inv = c.loop-name.invariant in
    let read = c.read_file-read.ensures in
    let own = own_fault c.read_file-read.result c.in-Err-with_file.status (c.loop-name.file + 1) number read.of_file c.in-Err-with_file.ensures.err (cc) in
    faults_next (g.F.Shelf.holds c.args.shelf.now) c.args.names.now c.loop-name.name-index c.name-item.result c.loop-name-test.true c.name-item.is c.loop-name.chain files number _ _ h inv.read
    (omega (arith, own.1, inv.numbered)) (λ bytes held. read.suffix files bytes number (inv.goes_on.0 ∙ h) held own.0)
    (λ steady. read.not_held files number (inv.goes_on.0 ∙ h) (subst IsTrue (sym inv.goes_on.1) steady) own.0)

pub returns-in-Err-with_file-clause-begins_err : goal.returns-in-Err-with_file-clause-begins_err
returns-in-Err-with_file-clause-begins_err g c =
    let inv = c.loop-name.invariant in
    let read = c.read_file-read.ensures in
    let number : c.loop-name.file + 1 ≡ c.loop-name.name-index + 1 = omega (arith, inv.numbered) in (
      c.loop-name.name-index + 1,
      omega (arith, c.loop-name-test.true),
      subst (λ n. IsOfFile n c.in-Err-with_file.status) number (of_next c.read_file-read.result c.in-Err-with_file.status (c.loop-name.file + 1) read.of_file c.in-Err-with_file.ensures.err),
      read.begins ∙ ap next_count inv.begun ∙ next_counted (g.F.Shelf.begins c.args.shelf.now) c.loop-name.name-index,
      omega (arith, read.few_reads, inv.few_reads),
    )

pub returns-clause-to_the_end : goal.returns-clause-to_the_end
returns-clause-to_the_end g c = λ files h file first last. c.loop-name.invariant.whole files h file first (omega arith)
