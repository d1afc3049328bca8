use Rattle.std.proofs.Common.{IsUtf8, ◌≡◌, ◌++◌, codes, take, true, refl, sym, ap, ap₂, ◌∙◌, subst}
use Rattle.std.proofs.lemmas.List.{take-append-drop}
use Rattle.std.proofs.lemmas.Str.{IsUtf8-drop, IsUtf8-take}
use Rattle.std.specs.List.{list_all}
use Rattle.std.specs.Str.{IsCharBoundary}
use Rattle.odd_reader.specs.Tagging.{is_section_byte}
use Rattle.odd_reader.proofs.SectionProofs.{section_first}
use Rattle.odd_reader.proofs.sections.after_section.Goals as goal

pub returns-in-Some-strip_prefix : goal.returns-in-Some-strip_prefix
returns-in-Some-strip_prefix c =
    let text = c.args.text.now in
    let begun = c.in-Some.begun.now in
    let inside = c.in-Some-split_at_checked.inside.now in
    let n = c.section_length.result in
    let first = c.in-Some.ensures.cases in
    let last = c.in-Some-strip_prefix.ensures.cases in
    let cut = c.in-Some-split_at_checked.ensures in
    let u : IsUtf8 begun = subst IsUtf8 (sym first.2) (IsUtf8-drop text first.0 c.utf8.text (subst (IsCharBoundary text) (sym first.1.0) first.1.2)) in
    let v : IsUtf8 inside = subst IsUtf8 (sym cut.front) (IsUtf8-take begun n u (cut.variant.0 refl)) in
    let plain : list_all is_section_byte inside ≡ true = ap (list_all is_section_byte) (cut.front ∙ ap (take n) (sym c.as_bytes.ensures.value)) ∙ c.section_length.ensures.plain in
    section_first text begun inside c.in-Some-split_at_checked.ended.now c.in-Some-strip_prefix.rest.now v plain (first.1.1 ∙ ap (λ bs. codes "<![CDATA[" ++ bs) (sym first.2))
    (sym (take-append-drop n begun) ∙ ap₂ ◌++◌ (sym cut.front) (sym cut.back)) (last.1.1 ∙ ap (λ bs. codes "]]>" ++ bs) (sym last.2))
