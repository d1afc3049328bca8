use Rattle.std.proofs.Common.{◌<◌, take, sym, ap, ◌∙◌, subst, arith}
use Rattle.odd_reader.specs.Tagging.{IsPlainName}
use Rattle.odd_reader.proofs.TaggingProofs.{front_name}
use Rattle.odd_reader.proofs.simple_tags.part.Goals as goal

pub returns-clause-name : goal.returns-clause-name
returns-clause-name c =
    let bytes = c.as_bytes-bytes.result.now in
    let n = c.name_length-length.result in
    let some : 0 < n = omega arith in
    subst IsPlainName (sym (c.in-Some.ensures.front ∙ ap (take n) (sym c.as_bytes-bytes.ensures.value)))
    (front_name bytes n some c.name_length-length.ensures.within (sym c.begins_plain.ensures ∙ c.if-not-begins_plain.false) c.name_length-length.ensures.plain)
