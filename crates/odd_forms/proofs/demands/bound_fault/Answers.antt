use Rattle.std.proofs.Common.{map}
use Rattle.odd_tree.specs.Elements.{all_binds}
use Rattle.odd_forms.proofs.Values.{unbound_least}
use Rattle.odd_forms.proofs.demands.bound_fault.Goals as goal

pub returns : goal.returns
returns c =
    rw (c.fault_where.ensures, c.in_ok-has_unbound.ensures) (unbound_least (all_binds (map (λ b. b.now) c.args.inside.now)) c.args.tree.now c.args.local.now)
