use Rattle.std.proofs.Common.{refl, sym, ◌∙◌}
use Rattle.odd_reader.proofs.Stepping.{run_advances}
use Rattle.odd_reader.proofs.reader.Reader.text.Goals as goal

pub returns-in-Ok-clause-ok : goal.returns-in-Ok-clause-ok
returns-in-Ok-clause-ok c =
    run_advances c.args.self.now _ c.args.at c.args.text.now c.in-Some.rest.now c.requires.inside refl c.in-Some.front.now (sym c.takes_plain.ensures ∙ c.if-not-takes_plain.false) c.in-Some.ensures.plain
    c.in-Some.ensures.some c.in-Some.ensures.parts c.in-Ok.ensures
