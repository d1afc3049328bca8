use Rattle.std.proofs.Common.{refl}
use Rattle.std.proofs.lemmas.Bool.{false≢true}
use Rattle.odd_modes.proofs.ItemFaults.{spec_added, spec_changed, spec_not_chosen}
use Rattle.odd_modes.proofs.faults.spec_fault.Goals as goal

pub returns-in-Add-default : goal.returns-in-Add-default
returns-in-Add-default c doc are = rw (c.in-Spec.is, c.fault_where.ensures) (spec_added _ _ _ _ _ c.in-Add-default.is-0 (c.is_chosen-chosen.ensures doc are))

pub returns-in-Change-true : goal.returns-in-Change-true
returns-in-Change-true c doc are =
    rw (c.in-Spec.is, c.fault_where-in-Change-true.ensures) (spec_changed _ doc _ _ _ c.in-Change-true.is-0 ((c.in-Change-true.ensures doc are).0 refl) c.gives_another_type.ensures)

pub returns-in_default-false : goal.returns-in_default-false
returns-in_default-false c doc are = rw c.in-Spec.is (spec_not_chosen _ doc _ _ c.in_default-false.not-Add-0 (λ is. false≢true ((c.in_default-false.ensures doc are).1 is)))

pub returns-in_default-false-2 : goal.returns-in_default-false-2
returns-in_default-false-2 c doc are = rw c.in-Spec.is (spec_not_chosen _ doc _ _ c.in_default-false.not-Add-0 (λ is. false≢true ((c.in_default-false.ensures doc are).1 is)))
