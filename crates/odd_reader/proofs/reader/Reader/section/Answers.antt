use Rattle.std.proofs.Common.{refl, sym, ap, ◌∙◌}
use Rattle.std.specs.Prelude.{Ok}
use Rattle.std.specs.Str.{encode_utf8_all}
use Rattle.odd_tokens.specs.Lines.{lines_read}
use Rattle.odd_tokens.specs.Tokens.{cdata}
use Rattle.odd_reader.specs.Building.{kept_of}
use Rattle.odd_reader.specs.Stepping.{with_inside}
use Rattle.odd_reader.proofs.SectionProofs.{inside_fits, section_lexed, section_read}
use Rattle.odd_reader.proofs.Stepping.{token_advances}
use Rattle.odd_reader.proofs.reader.Reader.section.Goals as goal

pub returns-in-Ok-clause-ok : goal.returns-in-Ok-clause-ok
returns-in-Ok-clause-ok c =
    let f = c.in-Some.ensures in
    let k = kept_of c.args.self.now.builder in
    token_advances c.args.self.now _ c.args.at c.args.text.now c.in-Some.rest.now c.requires.inside refl (cdata f.characters) (section_lexed f.characters f.all_plain) f.parts f.shorter
    (inside_fits k (encode_utf8_all (lines_read f.characters)) c.requires.inside.inside
    ∙ ap (λ m. Ok m) (ap (λ bs. with_inside bs k) (ap encode_utf8_all (section_read f.characters f.all_plain) ∙ f.written) ∙ sym c.in-Ok.ensures))
