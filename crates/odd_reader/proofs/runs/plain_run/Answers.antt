use Rattle.std.proofs.Common.{IsUtf8, ◌≡◌, take, true, refl, sym, ap, ◌∙◌, subst}
use Rattle.std.proofs.lemmas.Str.{IsUtf8-take}
use Rattle.std.specs.List.{list_all}
use Rattle.odd_reader.specs.Stepping.{is_plain_byte}
use Rattle.odd_reader.proofs.PlainText.{plain_text}
use Rattle.odd_reader.proofs.runs.plain_run.Goals as goal

pub returns-clause-plain : goal.returns-clause-plain
returns-clause-plain c =
    let text = c.args.text.now in
    let n = c.plain_length-length.result in
    let run = c.in-Some.front.now in
    let u : IsUtf8 run = subst IsUtf8 (sym c.in-Some.ensures.front) (IsUtf8-take text n c.utf8.text (c.in-Some.ensures.variant.0 refl)) in
    let plain : list_all is_plain_byte run ≡ true =
    ap (list_all is_plain_byte) (c.in-Some.ensures.front ∙ ap (take n) (sym c.as_bytes.ensures.value)) ∙ c.plain_length-length.ensures.plain in
    plain_text run u plain
