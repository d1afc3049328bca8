use Rattle.odd_modes.specs.Offences.{SpecFault}
use Rattle.odd_modes.proofs.ItemFaults.{first_all, first_more, first_none}
use Rattle.odd_modes.proofs.faults.first_spec_fault.Goals as goal

pub loop-entry-init : goal.loop-entry-init
loop-entry-init c = first_none (SpecFault c.args.library.now c.args.doc.now)

pub loop-entry-preserved : goal.loop-entry-preserved
loop-entry-preserved c =
    first_more (SpecFault c.args.library.now c.args.doc.now) c.as_slice-entry-items.result.now c.loop-entry.entry-index c.entry-item.result c.spec_fault-rule.result c.loop-entry.first c.fault_at.result _
    c.loop-entry-test.true c.entry-item.is c.loop-entry.invariant (c.spec_fault-rule.ensures c.args.doc.now c.requires) c.fault_at.ensures c.lesser-first.ensures

pub returns : goal.returns
returns c =
    first_all (SpecFault c.args.library.now c.args.doc.now) c.args.doc.now c.as_slice-entry-items.result.now c.loop-entry.entry-index c.loop-entry.first c.as_slice-entry-items.ensures c.loop-entry-test.false
    c.loop-entry.invariant
