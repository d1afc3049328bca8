use Rattle.std.proofs.Common.{◌≡◌, ◌++◌, Some, codes, sym, ap, ◌∙◌, lit<}
use Rattle.std.proofs.lemmas.Str.Pattern.{strip_prefix_char}
use Rattle.odd_reader.proofs.TaggingProofs.{empty_first, start_first}
use Rattle.odd_reader.proofs.simple_tags.TagReader.tag.Goals as goal

pub returns-in-Some-strip_prefix : goal.returns-in-Some-strip_prefix
returns-in-Some-strip_prefix c =
    start_first c.args.at c.args.text.now c.in-Some.begun.now c.in-Some-name.named.now c.in-Ok.parts.1.now c.after_space-ended.result.now c.in-Some-name.prefix.now c.in-Some-name.local.now
    c.in-Ok.parts.0 c.in_ok-name.name c.in-Some-name.ensures c.in-Ok.ensures c.after_space-ended.ensures
    (strip_prefix_char 0x3C c.args.text.now (Some c.in-Some.begun) c.in-Some.ensures.cases (lit< tt)) c.in_ok-name.ensures.prefix c.in_ok-name.ensures.local
    c.in-Some-strip_prefix.rest.now (strip_prefix_char 0x3E c.after_space-ended.result.now (Some c.in-Some-strip_prefix.rest) c.in-Some-strip_prefix.ensures.cases (lit< tt))

pub returns-in-Some-strip_prefix-2 : goal.returns-in-Some-strip_prefix-2
returns-in-Some-strip_prefix-2 c =
    let found = c.in-Some-strip_prefix-2.ensures.cases in
    let slash : c.after_space-ended.result.now ≡ codes "/>" ++ c.in-Some-strip_prefix-2.rest.now = found.1.1 ∙ ap (λ bs. codes "/>" ++ bs) (sym found.2) in
    empty_first c.args.at c.args.text.now c.in-Some.begun.now c.in-Some-name.named.now c.in-Ok.parts.1.now c.after_space-ended.result.now c.in-Some-name.prefix.now c.in-Some-name.local.now
    c.in-Ok.parts.0 c.in_ok-name.name c.in-Some-name.ensures c.in-Ok.ensures c.after_space-ended.ensures
    (strip_prefix_char 0x3C c.args.text.now (Some c.in-Some.begun) c.in-Some.ensures.cases (lit< tt)) c.in_ok-name.ensures.prefix c.in_ok-name.ensures.local
    c.in-Some-strip_prefix-2.rest.now slash
