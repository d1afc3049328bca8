use Rattle.std.proofs.Common.{Some, ◌++◌, sym, ap, ap₂, ◌∙◌, lit<}
use Rattle.std.proofs.lemmas.List.{take-append-drop}
use Rattle.std.proofs.lemmas.Str.Pattern.{strip_prefix_char}
use Rattle.odd_reader.proofs.references.after_digits.Goals as goal

pub returns-in-Some-numbered : goal.returns-in-Some-numbered
returns-in-Some-numbered c =
    let text = c.args.text.now in
    let digits = c.in-Some.digits.now in
    record {
      digits = digits;
      number = c.in-Some-numbered.ensures;
      parts = sym (take-append-drop c.number_length.result text) ∙ ap₂ ◌++◌ (sym c.in-Some.ensures.front) (sym c.in-Some.ensures.back)
          ∙ ap (λ bs. digits ++ bs) (strip_prefix_char 0x3B c.in-Some.ended.now (Some c.in-Some-strip_prefix.rest) c.in-Some-strip_prefix.ensures.cases (lit< tt));
    }
