use Rattle.std.proofs.Common.{refl}
use Rattle.odd_tokens.specs.Tokens.{instruction}
use Rattle.odd_reader.proofs.PassedProofs.{instruction_lexed}
use Rattle.odd_reader.proofs.Stepping.{token_advances}
use Rattle.odd_reader.proofs.reader.Reader.instruction.Goals as goal

pub returns-clause-ok : goal.returns-clause-ok
returns-clause-ok c =
    let f = c.in-Some.ensures in
    token_advances c.args.self.now _ c.args.at c.args.text.now c.in-Some.rest.now c.requires.inside refl (instruction f.target f.inside)
    (instruction_lexed f.target f.inside f.named f.other f.set_off f.all_but) f.parts f.shorter c.pass.ensures
