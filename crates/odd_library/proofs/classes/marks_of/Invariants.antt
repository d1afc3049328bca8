use Rattle.std.proofs.Common.{◌≡◌, IsTrue, fold}
use Rattle.std.specs.FinMap.{is_sorted}
use Rattle.odd_text.specs.Text.{text_cmp}
use Rattle.odd_library.specs.Members.{marks_of, with_child}
use Rattle.odd_library.proofs.classes.marks_of.Given as goal

abbrev pub invariant-loop-child : goal.invariant-loop-child
invariant-loop-child l = (fold with_child l.named.entries l.child-iterator ≡ marks_of l.classes) × IsTrue (is_sorted text_cmp l.named.entries)
