use Rattle.std.proofs.Common.{◌++◌, sym, ap, ◌∙◌}
use Rattle.std.specs.Prelude.{encode_utf8}
use Rattle.odd_tree.specs.Spelled.{DepthPlace, IsNotXml}
use Rattle.odd_reader.proofs.Stepping.{character_advances, character_refuses}
use Rattle.odd_reader.proofs.reader.Reader.character.Goals as goal

pub returns-in-Ok-clause-ok : goal.returns-in-Ok-clause-ok
returns-in-Ok-clause-ok c =
    character_advances _ _ c.args.at c.args.text.now c.as_str.result.now c.in-Some.c
    ((sym c.chars-chars.ensures.rest ∙ c.in-Some.ensures.steps.0) ∙ ap (λ xs. encode_utf8 c.in-Some.c ++ xs) (sym c.as_str.ensures)) (λ cs e h. c.in-Ok.ensures.ok cs e h)

pub returns-in-Err-clause-not_xml : goal.returns-in-Err-clause-not_xml
returns-in-Err-clause-not_xml c = λ place n.
    character_refuses IsNotXml c.args.self.now c.args.at place c.args.text.now _ c.in-Some.c (sym c.chars-chars.ensures.rest ∙ c.in-Some.ensures.steps.0)
    (λ cs others e h. c.in-Err.ensures.not_xml place n cs others e h)

pub returns-in-Err-clause-too_deep : goal.returns-in-Err-clause-too_deep
returns-in-Err-clause-too_deep c = λ place n.
    character_refuses DepthPlace c.args.self.now c.args.at place c.args.text.now _ c.in-Some.c (sym c.chars-chars.ensures.rest ∙ c.in-Some.ensures.steps.0)
    (λ cs others e h. c.in-Err.ensures.too_deep place n cs others e h)
