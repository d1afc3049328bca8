use Rattle.odd_cli.proofs.running.answer_of.Goals as goal

pub returns-in-Ok-clause-asides : goal.returns-in-Ok-clause-asides
returns-in-Ok-clause-asides c = λ trees of.
    let given = (c.in-Ok.ensures.whole c.args.aside trees of).1 in
    c.asides_of-asides.ensures trees given.docs of given.unoffended given.declared
