use Rattle.std.proofs.Common.{◌≡◌, ap, inl, inr, refl, subst, sym, ◌∙◌, Err}
use Rattle.compile_core.specs.SchemaText.{IsSchemaText}
use Rattle.odd_cli.specs.Outcome.{answers}
use Rattle.odd_cli.specs.Reply.{HasSchema, HasStart, start_offence}
use Rattle.odd_cli.specs.declared.status.Status.TheVariants as status
use Rattle.odd_cli.proofs.texts.schema_of.Goals as goal

pub returns-in-Err-Offence-clause-err : goal.returns-in-Err-Offence-clause-err
returns-in-Err-Offence-clause-err c =
    let refused = rw c.library.ensures.same at (c.in-Err-Offence.ensures.offence c.in-Err-Offence.offence (ap Err c.in-Err-Offence.field-0-is)) in
    let moved = rw c.in-Err-Offence.field-0-is at c.in_file.ensures in
    let same : c.in_file.result ≡ start_offence c.args.files refused.word = λ n. record {
      file = moved.file n;
      who = (moved.who ∙ refused.who) n;
      rule = (moved.rule ∙ refused.rule) n;
    } in
    λ replied. inl (subst (λ o. HasStart c.args.files c.args.library.now (answers (status.Refused o))) (sym same) (HasStart.start_missing refused.word refused.is_least))

pub returns-in-Err-TooLarge-clause-err : goal.returns-in-Err-TooLarge-clause-err
returns-in-Err-TooLarge-clause-err c =
    let large = rw c.library.ensures.same at (c.in-Err-TooLarge.ensures.too_large (ap Err c.in-Err-TooLarge.field-0-is)) in
    λ replied. inr (c.args.library.now, HasStart.start_held large.holds_start, HasSchema.too_large large)

pub returns-in-Ok-print_rng-clause-ok : goal.returns-in-Ok-print_rng-clause-ok
returns-in-Ok-print_rng-clause-ok c = (
  c.args.library.now,
  HasStart.start_held (rw c.library.ensures.same at (c.in-Ok.ensures.held refl)),
  HasSchema.schema c.in-Ok.grammar (record { holds_start = rw c.library.ensures.same at (c.in-Ok.ensures.held refl); is_grammar = rw c.library.ensures.same at c.in-Ok.ensures.grammar; within = c.in-Ok.ensures.within })
      (subst (IsSchemaText c.args.library.now c.args.library.now.start) (sym c.in-Ok-print_rng.ensures.text) (rw c.library.ensures.same at c.in-Ok.ensures.text)),
)

pub returns-in-Ok-print_rng-clause-accepts : goal.returns-in-Ok-print_rng-clause-accepts
returns-in-Ok-print_rng-clause-accepts c = record {
  grammar = c.in-Ok.grammar;
  denotes = c.in-Ok-print_rng.ensures.denotes (c.in-Ok.ensures.plain c.requires);
  accepts = rw c.library.ensures.same at (c.in-Ok.ensures.accepts c.requires);
}
