use Rattle.odd_pool.specs.declared.memory.Step.{Step}
use Rattle.odd_pool.proofs.Right.{right_grown, right_more}
use Rattle.odd_pool.proofs.memory.derive_by.Goals as goal

pub returns-in_err-to-in-None-clause-right : goal.returns-in_err-to-in-None-clause-right
returns-in_err-to-in-None-clause-right g c =
    right_grown (g.A.Alphabet.admits c.args.alphabet.now) (g.A.Numbered.number_of c.args.alphabet.now) c.args.pool.now c.derive.new.self c.args.memory.now c.derive.ensures.kept c.requires.right

pub returns-in_ok-to-in-None-clause-right : goal.returns-in_ok-to-in-None-clause-right
returns-in_ok-to-in-None-clause-right g c =
    let step : Step = record { at = c.args.at; number = c.number-number.result; to = c.in_ok-to-in-None.to } in
    right_more (g.A.Alphabet.admits c.args.alphabet.now) (g.A.Numbered.number_of c.args.alphabet.now) c.args.pool.now c.derive.new.self c.args.memory.now c.put.new.self step
    c.args.symbol.now c.derive.ensures.kept (g.met.A.Numbered.alike c.args.alphabet.now) c.requires.right c.put.ensures c.number-number.ensures c.requires.at c.in_ok-to-in-None.ensures.within c.in_ok-to-in-None.ensures.left
