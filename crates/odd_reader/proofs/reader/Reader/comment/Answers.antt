use Rattle.std.proofs.Common.{refl}
use Rattle.odd_tokens.specs.Tokens.{comment}
use Rattle.odd_reader.proofs.Stepping.{token_advances}
use Rattle.odd_reader.proofs.PassedProofs.{comment_lexed}
use Rattle.odd_reader.proofs.reader.Reader.comment.Goals as goal

pub returns-clause-ok : goal.returns-clause-ok
returns-clause-ok c =
    let f = c.in-Some.ensures in
    token_advances c.args.self.now _ c.args.at c.args.text.now c.in-Some.rest.now c.requires.inside refl (comment f.inside) (comment_lexed f.inside f.all_but) f.parts f.shorter
    c.pass.ensures
