use Rattle.odd_forms.proofs.Values.{collapsed_least}
use Rattle.odd_forms.proofs.demands.collapsed_fault.Goals as goal

pub returns : goal.returns
returns c = λ binds.
    rw c.fault_where.ensures
    (collapsed_least binds c.args.tree.now c.args.element c.args.local.now _ (rw (c.in_ok-values.ensures, c.in_ok-values_in.ensures) at c.in_ok-has_twice.ensures))
