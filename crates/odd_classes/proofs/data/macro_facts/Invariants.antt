use Rattle.std.proofs.Common.{take}
use Rattle.odd_classes.proofs.MacroFacts.{FactsSoFar}
use Rattle.odd_classes.proofs.data.macro_facts.Given as goal

abbrev pub invariant-loop-ident : goal.invariant-loop-ident
invariant-loop-ident l = FactsSoFar l.library (take l.ident-index l.ident-items) l.facts.entries
