use Rattle.std.proofs.Common.{take}
use Rattle.odd_modes.specs.Index.{IsFirst}
use Rattle.odd_modes.specs.Offences.{ReferenceFault}
use Rattle.odd_modes.proofs.ItemFaults.{BreaksAt}
use Rattle.odd_modes.proofs.faults.first_reference_fault.Given as goal

abbrev pub invariant-loop-entry : goal.invariant-loop-entry
invariant-loop-entry l = IsFirst (BreaksAt (ReferenceFault l.library) (take l.entry-index l.entry-items)) l.first
