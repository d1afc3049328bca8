use Rattle.std.proofs.Common.{refl, sym, ap, ◌∙◌}
use Rattle.std.specs.Prelude.{Ok, encode_utf8}
use Rattle.odd_tokens.specs.Tokens.{character_of, referred}
use Rattle.odd_reader.specs.Building.{kept_of}
use Rattle.odd_reader.specs.Stepping.{with_inside}
use Rattle.odd_reader.proofs.SectionProofs.{inside_fits}
use Rattle.odd_reader.proofs.Stepping.{token_advances}
use Rattle.odd_reader.proofs.reader.Reader.reference.Goals as goal

pub returns-in-Ok-clause-ok : goal.returns-in-Ok-clause-ok
returns-in-Ok-clause-ok c =
    let f = c.in-Some.ensures in
    let k = kept_of c.args.self.now.builder in
    token_advances c.args.self.now _ c.args.at c.args.text.now c.in-Some.rest.now c.requires.inside refl (referred f.reference) f.is_reference f.parts f.shorter
    (inside_fits k (encode_utf8 (character_of f.reference)) c.requires.inside.inside
    ∙ ap (λ m. Ok m) (ap (λ x. with_inside (encode_utf8 x) k) (sym f.is_made) ∙ sym c.in-Ok.ensures))
