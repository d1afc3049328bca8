use Rattle.std.proofs.Common.{refl}
use Rattle.odd_reader.proofs.EndTags.{end_short}
use Rattle.odd_reader.proofs.Stepping.{end_advances}
use Rattle.odd_reader.proofs.reader.Reader.markup.Goals as goal

pub returns-in-Ok-clause-ok : goal.returns-in-Ok-clause-ok
returns-in-Ok-clause-ok c =
    end_advances c.args.self.now _ c.args.at c.args.text.now c.in-Some.rest.now c.requires.inside refl c.in-Some.ensures (end_short _ c.args.text.now c.in-Some.rest.now c.in-Some.ensures) c.in-Ok.ensures
