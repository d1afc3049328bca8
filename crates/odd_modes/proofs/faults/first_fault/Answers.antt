use Rattle.odd_modes.proofs.ItemFaults.{first_of_both}
use Rattle.odd_modes.proofs.faults.first_fault.Goals as goal

pub returns : goal.returns
returns c =
    first_of_both c.args.library.now c.args.doc.now c.in_ok-of_references.of_references c.first_spec_fault-of_specs.result c.lesser.result c.in_ok-of_references.ensures c.first_spec_fault-of_specs.ensures c.lesser.ensures
