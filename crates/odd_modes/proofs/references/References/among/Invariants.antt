use Rattle.std.proofs.Common.{take}
use Rattle.odd_modes.specs.Index.{AreReferencesOf}
use Rattle.odd_modes.proofs.references.References.among.Given as goal

abbrev pub invariant-loop-entry : goal.invariant-loop-entry
invariant-loop-entry l = AreReferencesOf (take l.entry-index l.entries) l.references
