use Rattle.std.proofs.Common.{◌+◌, arith}
use Rattle.compile_defines.proofs.Elements.{copies_within}
use Rattle.compile_defines.proofs.Taking.{taking_refused}
use Rattle.compile_defines.proofs.repeating.add_copies.Goals as goal

pub returns-in_err-take_over-clause-taken : goal.returns-in_err-take_over-clause-taken
returns-in_err-take_over-clause-taken c =
    let within = copies_within c.loop.counter c.args.count c.args.part.now c.loop-test.true in
    taking_refused (c.args.inside + 1) _ c.args.budget.now c.loop.budget (λ less. omega arith) _ _ c.in_err-take_over.ensures.taken c.from_residual.result c.from_residual.ensures.1
