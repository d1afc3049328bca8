use Rattle.std.proofs.Common.{sym}
use Rattle.odd_forms.proofs.Values.{both_given_least, neither_least}
use Rattle.odd_forms.proofs.demands.either_fault.Goals as goal

pub returns-in-true-true : goal.returns-in-true-true
returns-in-true-true c = λ binds. both_given_least binds c.args.tree.now c.args.one.now c.args.other.now (sym c.in-true-true.ensures) (sym c.in-true-true.ensures')

pub returns-in-false-false : goal.returns-in-false-false
returns-in-false-false c = λ binds. neither_least binds c.args.tree.now c.args.one.now c.args.other.now (sym c.in-false-false.ensures) (sym c.in-false-false.ensures')
