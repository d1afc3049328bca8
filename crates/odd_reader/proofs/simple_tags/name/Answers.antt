use Rattle.std.proofs.Common.{Some, ◌++◌, ap, ◌∙◌, lit<}
use Rattle.std.proofs.lemmas.Str.Pattern.{strip_prefix_char}
use Rattle.odd_reader.proofs.TaggingProofs.{both_parts}
use Rattle.odd_reader.proofs.simple_tags.name.Goals as goal

pub returns : goal.returns
returns c =
    let first = c.in-Some.first.now in
    both_parts c.args.text.now first c.in-Some-strip_prefix.second.now c.in-Some-part.local.now c.in-Some-part.left.now c.in-Some.ensures.name c.in-Some-part.ensures.name
    (c.in-Some.ensures.parts ∙ ap (λ bs. first ++ bs) (strip_prefix_char 0x3A c.in-Some.rest.now (Some c.in-Some-strip_prefix.second) c.in-Some-strip_prefix.ensures.cases (lit< tt)))
    c.in-Some-part.ensures.parts
