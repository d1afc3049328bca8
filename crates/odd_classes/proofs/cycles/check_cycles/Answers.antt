use Rattle.std.proofs.lemmas.Result.{err_from_is_err_and}
use Rattle.odd_classes.proofs.cycles.check_cycles.Goals as goal

pub returns-in_err-acyclic-clause-first : goal.returns-in_err-acyclic-clause-first
returns-in_err-acyclic-clause-first c = λ key rule is.
    let given = err_from_is_err_and c.from_residual.result c.from_residual.ensures.1 in
    c.in_err-acyclic.ensures.first key rule (cc (given.1, given.2, is))
