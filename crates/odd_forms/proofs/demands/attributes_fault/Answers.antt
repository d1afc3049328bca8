use Rattle.odd_forms.proofs.Listed.{pointed}
use Rattle.odd_forms.proofs.Values.{attributes_least}
use Rattle.odd_forms.proofs.demands.attributes_fault.Goals as goal

pub returns : goal.returns
returns c = λ binds.
    rw c.fault_where.ensures
    (attributes_least binds c.args.tree.now (pointed c.in_ok-defs.defs.items) _ c.in_ok-defs.ensures (rw (c.in_ok-idents.ensures, c.deref.ensures.value) at c.in_ok-has_twice.ensures))
