use Rattle.std.proofs.Common.{take}
use Rattle.odd_classes.specs.DataFacts.{HasFactsOfParts}
use Rattle.odd_classes.proofs.data.+facts_of.Given as goal

abbrev pub invariant-facts_of_parts-loop-part : goal.invariant-facts_of_parts-loop-part
invariant-facts_of_parts-loop-part l = HasFactsOfParts l.macros.entries (take l.part-index l.part-items) l.facts
