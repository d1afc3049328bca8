use Rattle.std.proofs.Common.{◌≡◌, ◌≤◌, ◌+◌, ◌++◌, None, Some, length, false, true, ap, sym, subst, ◌∙◌, Err, []}
use Rattle.std.proofs.lemmas.List.{append-nil}
use Rattle.odd_cli.proofs.Answering.{one_text, one_status, silent_complete, silent_text, reads_steady}
use Rattle.odd_cli.proofs.Reordered.{in_any_order}
use Rattle.odd_cli.proofs.Serving.{accepts_of, base_of}
use Rattle.odd_cli.specs.Reply.{Reply}
use Rattle.odd_cli.specs.declared.status.Status.TheVariants as status
use Rattle.odd_cli.specs.Note.{note_text}
use Rattle.odd_cli.specs.Running.{IsReplied, IsSilent, IsComplete, IsNoted}
use Rattle.odd_cli.proofs.running.run.Goals as goal

pub returns-in-Ok-clause-room : goal.returns-in-Ok-clause-room
returns-in-Ok-clause-room g c = λ files text s h reply steady fits is.
    let is_done : status.Done ≡ s = one_status c.args.words.now files c.in-Ok.answer.text text status.Done s (c.in-Ok.ensures.ok files h) reply in
    let same : text ≡ c.as_bytes.result.now =
    one_text c.args.words.now files text c.in-Ok.answer.text (subst (Reply c.args.words.now files text) (sym is_done) reply) (c.in-Ok.ensures.ok files h)
    ∙ sym (c.as_bytes.ensures.value ∙ c.as_str.ensures) in
    let wrong : false ≡ true = c.in-Err-write_whole.ensures.room steady (subst (λ x. length x ≤ g.W.Sink.room c.args.out.now) same fits) in
    cc

pub returns-in-Ok-write_whole-clause-room_taken : goal.returns-in-Ok-write_whole-clause-room_taken
returns-in-Ok-write_whole-clause-room_taken g c = λ files text h reply steady is.
    let same : text ≡ c.as_bytes.result.now = one_text c.args.words.now files text c.in-Ok.answer.text reply (c.in-Ok.ensures.ok files h) ∙ sym (c.as_bytes.ensures.value ∙ c.as_str.ensures) in
    subst (λ x. g.W.Sink.room c.write_whole.new.out + length x ≡ g.W.Sink.room c.args.out.now) (sym same) (c.in-Ok-write_whole.ensures.room_taken steady)

pub returns-clause-read_place : goal.returns-clause-read_place
returns-clause-read_place g c = λ files file h is. c.in-Err.ensures.read_place files file h (ap Err (sym c.noted-in-Err.ensures.same ∙ is))

pub returns-in-Ok-write_whole-clause-one : goal.returns-in-Ok-write_whole-clause-one
returns-in-Ok-write_whole-clause-one g c = λ files before text s h b replied reply.
    let is_done : status.Done ≡ s = one_status c.args.words.now files c.in-Ok.answer.text text status.Done s (c.in-Ok.ensures.ok files h) reply in
    let same : c.as_bytes.result.now ≡ text =
    c.as_bytes.ensures.value ∙ c.as_str.ensures ∙ one_text c.args.words.now files c.in-Ok.answer.text text (c.in-Ok.ensures.ok files h) (subst (Reply c.args.words.now files text) (sym is_done) reply) in
    (c.noted.ensures.same ∙ is_done, c.in-Ok-write_whole.ensures.whole before b ∙ ap (λ t. Some (before ++ t)) same)

pub returns-in-Ok-clause-complete_steady : goal.returns-in-Ok-clause-complete_steady
returns-in-Ok-clause-complete_steady g c = λ files h sound shelf_steady steady fits.
    let same : c.in-Ok.answer.text ≡ c.as_bytes.result.now = sym (c.as_bytes.ensures.value ∙ c.as_str.ensures) in
    let wrong : false ≡ true = c.in-Err-write_whole.ensures.room steady (subst (λ x. length x ≤ g.W.Sink.room c.args.out.now) same (fits c.in-Ok.answer.text (c.in-Ok.ensures.ok files h))) in
    cc

pub returns-clause-complete : goal.returns-clause-complete
returns-clause-complete g c = λ files h sound no_read no_write.
    subst IsComplete (sym c.noted-in-Err.ensures.same)
    (silent_complete c.args.words.now files c.in-Err.status sound c.in-Err.ensures.early (c.in-Err.ensures.err files h)
    (λ file is. no_read (c.in-Err.ensures.read_cause file (ap Err is))))

pub returns-clause-complete_steady : goal.returns-clause-complete_steady
returns-clause-complete_steady g c = λ files h sound shelf_steady steady fits.
    subst IsComplete (sym c.noted-in-Err.ensures.same)
    (silent_complete c.args.words.now files c.in-Err.status sound c.in-Err.ensures.early (c.in-Err.ensures.err files h)
    (λ file is. reads_steady c.args.words.now files file (g.F.Shelf.rest c.reply_text.new.shelf) (g.F.Shelf.steady c.args.shelf.now) sound
    (c.in-Err.ensures.read_place files file h (ap Err is)) shelf_steady))

pub returns-clause-one : goal.returns-clause-one
returns-clause-one g c = λ files before text s h b replied reply.
    let same : c.in-Err.status ≡ s =
    one_status c.args.words.now files [] text c.in-Err.status s (c.in-Err.ensures.err files h (subst IsReplied c.noted-in-Err.ensures.same replied)) reply in
    let empty : text ≡ [] = silent_text c.args.words.now files text s (subst IsSilent same c.in-Err.ensures.early) reply in
    (c.noted-in-Err.ensures.same ∙ same, b ∙ ap Some (sym (ap (λ t. before ++ t) empty ∙ append-nil before)))

pub returns-in-Ok-write_whole-clause-accepts : goal.returns-in-Ok-write_whole-clause-accepts
returns-in-Ok-write_whole-clause-accepts g c = λ files before h b is.
    let same : c.as_bytes.result.now ≡ c.in-Ok.answer.text = c.as_bytes.ensures.value ∙ c.as_str.ensures in
    (c.in-Ok.answer.text, c.in-Ok-write_whole.ensures.whole before b ∙ ap (λ t. Some (before ++ t)) same, accepts_of c.args.words.now files c.in-Ok.answer.text (c.in-Ok.ensures.serves files h))

pub returns-in-Ok-write_whole-clause-base : goal.returns-in-Ok-write_whole-clause-base
returns-in-Ok-write_whole-clause-base g c = λ files before aside first h b is asks.
    let same : c.as_bytes.result.now ≡ c.in-Ok.answer.text = c.as_bytes.ensures.value ∙ c.as_str.ensures in (
      c.in-Ok.answer.text,
      c.in-Ok-write_whole.ensures.whole before b ∙ ap (λ t. Some (before ++ t)) same,
      base_of c.args.words.now files aside first c.in-Ok.answer.text asks (c.in-Ok.ensures.serves files h),
    )

pub returns-in-Ok-write_whole-clause-order : goal.returns-in-Ok-write_whole-clause-order
returns-in-Ok-write_whole-clause-order g c = λ files before h b replied.
    let same : c.as_bytes.result.now ≡ c.in-Ok.answer.text = c.as_bytes.ensures.value ∙ c.as_str.ensures in (
      c.in-Ok.answer.text,
      c.in-Ok-write_whole.ensures.whole before b ∙ ap (λ t. Some (before ++ t)) same,
      in_any_order c.args.words.now files c.in-Ok.answer.text c.noted.result (subst (Reply c.args.words.now files c.in-Ok.answer.text) (sym c.noted.ensures.same) (c.in-Ok.ensures.ok files h)),
    )

pub returns-clause-order : goal.returns-clause-order
returns-clause-order g c = λ files before h b replied. (
  [],
  b ∙ ap Some (sym (append-nil before)),
  in_any_order c.args.words.now files [] c.noted-in-Err.result
      (subst (Reply c.args.words.now files []) (sym c.noted-in-Err.ensures.same) (c.in-Err.ensures.err files h (subst IsReplied c.noted-in-Err.ensures.same replied))),
)

pub returns-in-Ok-write_whole-clause-note : goal.returns-in-Ok-write_whole-clause-note
returns-in-Ok-write_whole-clause-note g c = λ before e. (
  c.in-Ok.answer.asides,
  subst (λ s. IsNoted before (note_text s c.in-Ok.answer.asides) (g.N.Sink.written c.noted.new.note) (g.N.Sink.faults c.args.note.now) (g.N.Sink.faults c.noted.new.note)) (sym c.noted.ensures.same) (c.noted.ensures.note before e),
  λ files h is. c.in-Ok.ensures.asides files h,
)

pub returns-clause-note : goal.returns-clause-note
returns-clause-note g c = λ before e. (
  None,
  subst (λ s. IsNoted before (note_text s None) (g.N.Sink.written c.noted-in-Err.new.note) (g.N.Sink.faults c.args.note.now) (g.N.Sink.faults c.noted-in-Err.new.note)) (sym c.noted-in-Err.ensures.same) (c.noted-in-Err.ensures.note before e),
  λ files h is. absurd (subst IsSilent (sym c.noted-in-Err.ensures.same ∙ is) c.in-Err.ensures.early),
)
