use Rattle.std.proofs.Common.{IsTrue, fold, map}
use Rattle.std.specs.FinMap.{is_sorted}
use Rattle.odd_text.specs.Text.{text_cmp}
use Rattle.odd_attributes.specs.Giving.{AreEditsOf, with_definition}
use Rattle.odd_attributes.proofs.reading.edits_in.Given as goal

abbrev pub invariant-loop-def : goal.invariant-loop-def
invariant-loop-def l = AreEditsOf l.list (fold with_definition l.edits.entries (map (λ t. t.now) l.def-iterator.rest.items)) × IsTrue (is_sorted text_cmp l.edits.entries)
