use Rattle.std.proofs.Common.{◌++◌, encode_utf8, rules, string_bytes, sym, ap, ◌∙◌, subst}
use Rattle.odd_reader.specs.Tagging.{ArePiecesFirst}
use Rattle.odd_reader.proofs.ValueProofs.{pieces_more, reference_more}
use Rattle.odd_reader.proofs.simple_tags.value_until.Goals as goal

pub reading-preserved : goal.reading-preserved
reading-preserved c =
    let quote = c.args.quote in
    let text = c.args.text.now in
    let before = string_bytes c.reading.value in
    let referred = c.in-Some-after_reference.referred.now in
    let run = c.in-Some-run_in.run'.now in
    let left = c.in-Some-run_in.left.now in
    let bytes = encode_utf8 c.in-Some-after_reference.c in
    let all = pieces_more quote text (before ++ bytes) referred run left
    (reference_more quote text before c.reading.rest.now referred c.in-Some-after_reference.c c.reading.invariant.1 c.in-Some-after_reference.ensures) c.in-Some-run_in.ensures in (
      search rules,
      subst (λ bs. ArePiecesFirst quote text bs left) (sym (c.in_ok-push_str.ensures.bytes ∙ ap (λ bs. bs ++ run) c.in_ok-push.ensures.bytes)) all,
    )
