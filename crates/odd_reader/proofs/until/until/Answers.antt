use Rattle.std.proofs.Common.{IsUtf8, ◌≡◌, ◌++◌, take, true, refl, sym, ap, ap₂, ◌∙◌, subst}
use Rattle.std.proofs.lemmas.List.{take-append-drop}
use Rattle.std.proofs.lemmas.Str.{IsUtf8-take}
use Rattle.std.specs.List.{list_all}
use Rattle.odd_reader.specs.Tagging.{is_byte_but}
use Rattle.odd_reader.proofs.PassedProofs.{until_first}
use Rattle.odd_reader.proofs.until.until.Goals as goal

pub returns : goal.returns
returns c =
    let text = c.args.text.now in
    let mark = c.args.mark in
    let n = c.length_until.result in
    let front = c.in-Some.front.now in
    let u : IsUtf8 front = subst IsUtf8 (sym c.in-Some.ensures.front) (IsUtf8-take text n c.utf8.text (c.in-Some.ensures.variant.0 refl)) in
    let plain : list_all (is_byte_but mark) front ≡ true =
    ap (list_all (is_byte_but mark)) (c.in-Some.ensures.front ∙ ap (take n) (sym c.as_bytes.ensures.value)) ∙ c.length_until.ensures.plain in
    until_first mark text front c.in-Some.rest.now c.requires u plain (sym (take-append-drop n text) ∙ ap₂ ◌++◌ (sym c.in-Some.ensures.front) (sym c.in-Some.ensures.back))
