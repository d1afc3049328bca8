use Rattle.std.proofs.Common.{IsUtf8, ◌≡◌, ◌++◌, take, true, refl, sym, ap, ap₂, ◌∙◌, subst}
use Rattle.std.proofs.lemmas.List.{take-append-drop}
use Rattle.std.proofs.lemmas.Str.{IsUtf8-take}
use Rattle.std.specs.List.{list_all}
use Rattle.odd_reader.specs.Tagging.{is_plain_byte_in}
use Rattle.odd_reader.proofs.ValueProofs.{run_first}
use Rattle.odd_reader.proofs.simple_tags.run_in.Goals as goal

pub returns : goal.returns
returns c =
    let text = c.args.text.now in
    let quote = c.args.quote in
    let n = c.value_length.result in
    let run = c.in-Some.run'.now in
    let u : IsUtf8 run = subst IsUtf8 (sym c.in-Some.ensures.front) (IsUtf8-take text n c.utf8.text (c.in-Some.ensures.variant.0 refl)) in
    let plain : list_all (is_plain_byte_in quote) run ≡ true =
    ap (list_all (is_plain_byte_in quote)) (c.in-Some.ensures.front ∙ ap (take n) (sym c.as_bytes.ensures.value)) ∙ c.value_length.ensures.plain in
    run_first quote text run c.in-Some.rest.now c.requires u plain (sym (take-append-drop n text) ∙ ap₂ ◌++◌ (sym c.in-Some.ensures.front) (sym c.in-Some.ensures.back))
