use Rattle.odd_forms.proofs.Values.{apart_least}
use Rattle.odd_forms.proofs.demands.apart_fault.Goals as goal

pub returns : goal.returns
returns c = λ binds. rw c.fault_where.ensures (apart_least binds c.args.tree.now c.args.element c.args.local.now _ (rw c.in_ok-values.ensures at c.in_ok-has_twice.ensures))
