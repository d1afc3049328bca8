use Rattle.std.proofs.Common.{◌≡◌, ◌≤◌, ◌+◌, ◌*◌, Err, ap, inl, subst}
use Rattle.std.proofs.lemmas.Result.{IfErr-at_err}
use Rattle.odd_cli.specs.Words.{told}
use Rattle.odd_cli.specs.Reading.{IsOfFile, IsOfTrees}
use Rattle.odd_cli.specs.Outcome.{answers}
use Rattle.odd_cli.specs.Reply.{NamesFiles, answered, file_bytes}
use Rattle.odd_cli.specs.Running.{AreReadWhole, GoesOn, counted}
use Rattle.odd_cli.specs.declared.status.LimitKind.TheVariants as limit
use Rattle.odd_cli.specs.declared.status.Status.TheVariants as status
use Rattle.odd_cli.proofs.Answering.{asides_told, begun_on_err, begun_stopped, fault_placed, named_answer, named_asks, named_job, named_many, named_none, named_usage, on_any, status_comes, stop_comes, text_comes, text_serves, usage_named}
use Rattle.odd_cli.proofs.running.reply_text.Goals as goal

pub returns-in-Err-clause-err : goal.returns-in-Err-clause-err
returns-in-Err-clause-err g c = λ files h replied. answered (inl c.in-Err.ensures.err)

pub returns-in-Err-clause-usage : goal.returns-in-Err-clause-usage
returns-in-Err-clause-usage g c = (λ is. usage_named c.args.words.now c.in-Err.status c.in-Err.ensures.err (cc), λ none. ap Err (named_usage c.args.words.now c.in-Err.status c.in-Err.ensures.err none))

pub returns-in-Err-clause-files : goal.returns-in-Err-clause-files
returns-in-Err-clause-files g c = (
  λ is. subst (λ s. NamesFiles c.args.words.now (answers s)) (cc) c.in-Err.ensures.err,
  λ n. ap Err (named_answer c.args.words.now c.in-Err.status _ c.in-Err.ensures.err n),
)

pub returns-in-Ok-read_chain-clause-ok : goal.returns-in-Ok-read_chain-clause-ok
returns-in-Ok-read_chain-clause-ok g c = λ files h.
    text_comes _ c.args.words.now (told c.in-Ok.asked.task) c.in-Ok.asked.aside c.in-Ok.asked.chain.now c.in-Ok-read_chain.chain c.in-Ok.ensures.ok c.in-Ok-read_chain.ensures.ok files h c.answer_of.result c.answer_of.ensures.ok

pub returns-in-Ok-read_chain-clause-serves : goal.returns-in-Ok-read_chain-clause-serves
returns-in-Ok-read_chain-clause-serves g c = λ files h.
    text_serves _ c.args.words.now (told c.in-Ok.asked.task) c.in-Ok.asked.aside c.in-Ok.asked.chain.now c.in-Ok-read_chain.chain c.in-Ok.ensures.ok c.in-Ok-read_chain.ensures.ok files h c.answer_of.result c.answer_of.ensures.serves

pub returns-in-Ok-read_chain-clause-asides : goal.returns-in-Ok-read_chain-clause-asides
returns-in-Ok-read_chain-clause-asides g c = λ files h.
    asides_told _ c.args.words.now (told c.in-Ok.asked.task) c.in-Ok.asked.aside c.in-Ok.asked.chain.now c.in-Ok-read_chain.chain c.in-Ok.ensures.ok c.in-Ok-read_chain.ensures.ok files h c.answer_of.result c.answer_of.ensures.asides

pub returns-in-Ok-read_chain-clause-err : goal.returns-in-Ok-read_chain-clause-err
returns-in-Ok-read_chain-clause-err g c = λ files h.
    status_comes _ c.args.words.now (told c.in-Ok.asked.task) c.in-Ok.asked.aside c.in-Ok.asked.chain.now c.in-Ok-read_chain.chain c.in-Ok.ensures.ok c.in-Ok-read_chain.ensures.ok files h c.answer_of.result c.answer_of.ensures.err

pub returns-in-Ok-read_chain-clause-few_reads : goal.returns-in-Ok-read_chain-clause-few_reads
returns-in-Ok-read_chain-clause-few_reads g c =
    subst (λ n. g.F.Shelf.reads c.read_chain.new.shelf ≤ g.F.Shelf.reads c.args.shelf.now + n * (file_bytes + 1)) (named_many c.args.words.now (told c.in-Ok.asked.task) c.in-Ok.asked.aside c.in-Ok.asked.chain.now c.in-Ok.ensures.ok)
    c.in-Ok-read_chain.ensures.few_reads

pub returns-in-Ok-read_chain-clause-begins : goal.returns-in-Ok-read_chain-clause-begins
returns-in-Ok-read_chain-clause-begins g c =
    on_any c.answer_of.result _
    (subst (λ n. g.F.Shelf.begins c.read_chain.new.shelf ≡ counted (g.F.Shelf.begins c.args.shelf.now) n) (named_many c.args.words.now (told c.in-Ok.asked.task) c.in-Ok.asked.aside c.in-Ok.asked.chain.now c.in-Ok.ensures.ok) c.in-Ok-read_chain.ensures.begins)

pub returns-in-Ok-read_chain-clause-usage : goal.returns-in-Ok-read_chain-clause-usage
returns-in-Ok-read_chain-clause-usage g c = (
  λ is. absurd (IfErr-at_err IsOfTrees is c.answer_of.ensures.of_trees),
  λ none. absurd (named_job c.args.words.now (told c.in-Ok.asked.task) c.in-Ok.asked.aside c.in-Ok.asked.chain.now c.in-Ok.ensures.ok none),
)

pub returns-in-Ok-read_chain-clause-files : goal.returns-in-Ok-read_chain-clause-files
returns-in-Ok-read_chain-clause-files g c = (
  λ is. absurd (IfErr-at_err IsOfTrees is c.answer_of.ensures.of_trees),
  λ n. absurd (named_none c.args.words.now (told c.in-Ok.asked.task) c.in-Ok.asked.aside c.in-Ok.asked.chain.now _ c.in-Ok.ensures.ok n),
)

pub returns-in-Ok-read_chain-clause-begins_err : goal.returns-in-Ok-read_chain-clause-begins_err
returns-in-Ok-read_chain-clause-begins_err g c =
    begun_on_err c.args.words.now (told c.in-Ok.asked.task) c.in-Ok.asked.aside c.in-Ok.asked.chain.now c.in-Ok.ensures.ok _ _ _ _ c.answer_of.result c.in-Ok-read_chain.ensures.begins c.in-Ok-read_chain.ensures.few_reads c.answer_of.ensures.of_trees

pub returns-in-Err-read_chain-clause-err : goal.returns-in-Err-read_chain-clause-err
returns-in-Err-read_chain-clause-err g c = λ files h.
    stop_comes files c.args.words.now (told c.in-Ok.asked.task) c.in-Ok.asked.aside c.in-Ok.asked.chain.now c.in-Err-read_chain.status c.in-Ok.ensures.ok (c.in-Err-read_chain.ensures.err files h)

pub returns-in-Err-read_chain-clause-few_reads : goal.returns-in-Err-read_chain-clause-few_reads
returns-in-Err-read_chain-clause-few_reads g c =
    subst (λ n. g.F.Shelf.reads c.read_chain.new.shelf ≤ g.F.Shelf.reads c.args.shelf.now + n * (file_bytes + 1))
    (named_many c.args.words.now (told c.in-Ok.asked.task) c.in-Ok.asked.aside c.in-Ok.asked.chain.now c.in-Ok.ensures.ok) c.in-Err-read_chain.ensures.few_reads

pub returns-in-Err-read_chain-clause-begins_err : goal.returns-in-Err-read_chain-clause-begins_err
returns-in-Err-read_chain-clause-begins_err g c = begun_stopped c.args.words.now (told c.in-Ok.asked.task) c.in-Ok.asked.aside c.in-Ok.asked.chain.now c.in-Ok.ensures.ok _ _ _ _ c.in-Err-read_chain.status c.in-Err-read_chain.ensures.begins_err

pub returns-in-Err-read_chain-clause-read_place : goal.returns-in-Err-read_chain-clause-read_place
returns-in-Err-read_chain-clause-read_place g c = λ files file h is.
    let faulted : c.in-Err-read_chain.status ≡ status.ReadFault file = cc in
    fault_placed c.args.words.now (told c.in-Ok.asked.task) c.in-Ok.asked.aside c.in-Ok.asked.chain.now files file _ _ c.in-Ok.ensures.ok (c.in-Err-read_chain.ensures.read_place files file h (ap Err faulted))

pub returns-in-Ok-read_chain-clause-to_the_end : goal.returns-in-Ok-read_chain-clause-to_the_end
returns-in-Ok-read_chain-clause-to_the_end g c = λ files h.
    on_any c.answer_of.result _ (
      subst (λ n. AreReadWhole g.F.Shelf.begins g.F.Shelf.rest (GoesOn g.F.Shelf.holds g.F.Shelf.steady g.F.Shelf.faults g.F.Shelf.begins g.F.Shelf.reads) n c.args.shelf.now c.read_chain.new.shelf) (named_many c.args.words.now (told c.in-Ok.asked.task) c.in-Ok.asked.aside c.in-Ok.asked.chain.now c.in-Ok.ensures.ok) (c.in-Ok-read_chain.ensures.to_the_end files h),
      c.in-Ok-read_chain.ensures.last_ended files h (named_asks c.args.words.now (told c.in-Ok.asked.task) c.in-Ok.asked.aside c.in-Ok.asked.chain.now c.in-Ok.ensures.ok).some,
    )

pub returns-in-Err-read_chain-clause-usage : goal.returns-in-Err-read_chain-clause-usage
returns-in-Err-read_chain-clause-usage g c = (
  λ is. let stops = c.in-Err-read_chain.ensures.begins_err in
      let usage : c.in-Err-read_chain.status ≡ status.Usage = cc in
      absurd (subst (IsOfFile stops.0) usage stops.2),
  λ none. absurd (named_job c.args.words.now (told c.in-Ok.asked.task) c.in-Ok.asked.aside c.in-Ok.asked.chain.now c.in-Ok.ensures.ok none),
)

pub returns-in-Err-read_chain-clause-files : goal.returns-in-Err-read_chain-clause-files
returns-in-Err-read_chain-clause-files g c = (
  λ is. let stops = c.in-Err-read_chain.ensures.begins_err in
      let files : c.in-Err-read_chain.status ≡ status.Limit limit.Files = cc in
      absurd (subst (IsOfFile stops.0) files stops.2),
  λ n. absurd (named_none c.args.words.now (told c.in-Ok.asked.task) c.in-Ok.asked.aside c.in-Ok.asked.chain.now _ c.in-Ok.ensures.ok n),
)
