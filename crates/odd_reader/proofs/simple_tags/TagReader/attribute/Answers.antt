use Rattle.std.proofs.Common.{Some, refl, subst, lit<}
use Rattle.std.proofs.lemmas.Str.Pattern.{strip_prefix_char}
use Rattle.odd_reader.specs.Tagging.{IsQuoted, IsSpaced}
use Rattle.odd_reader.proofs.TaggingProofs.{attribute_first}
use Rattle.odd_reader.proofs.simple_tags.TagReader.attribute.Goals as goal

pub returns-in_ok-name-in-Ok-Some : goal.returns-in_ok-name-in-Ok-Some
returns-in_ok-name-in-Ok-Some c =
    let named = c.in-Some.named.now in
    let equals = c.in-Some-strip_prefix.equals.now in
    let valued = c.after_space-2.result.now in
    let value = c.in-Ok-Some.value in
    let rest = c.in-Ok-Some.rest.now in
    let q : IsQuoted valued value rest = rw c.in-Ok-Some.field-0-is at c.in-Ok-Some.ensures in
    attribute_first c.args.text.now c.after_space-begun.result.now named equals valued value rest c.in-Some.prefix.now c.in-Some.local.now c.if-begun-text.false c.after_space-begun.ensures
    c.in-Some.ensures (subst (IsSpaced named) (strip_prefix_char 0x3D c.after_space.result.now (Some c.in-Some-strip_prefix.equals) c.in-Some-strip_prefix.ensures.cases (lit< tt)) c.after_space.ensures)
    c.after_space-2.ensures q (record { name = c.in_ok-name-in-Ok-Some.name; value = value }) c.in_ok-name-in-Ok-Some.ensures.prefix c.in_ok-name-in-Ok-Some.ensures.local refl
