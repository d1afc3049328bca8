use Rattle.std.proofs.Common.{◌≡◌, ◌+◌, length}
use Rattle.std.specs.Prelude.{sum_by}
use Rattle.odd_graph.specs.Marking.{AreClear}
use Rattle.odd_classes.proofs.Listed.{ListedSoFar}
use Rattle.odd_classes.proofs.member_lists.listed.Given as goal

abbrev pub invariant-loop-place : goal.invariant-loop-place
invariant-loop-place l = AreClear l.arrows.items l.marks.items × ListedSoFar l.library.parts l.arrows.items l.place l.lists.items × (l.left + sum_by length l.lists.items ≡ l.limit)
