use Rattle.std.proofs.Common.{◌↔◌, take, ℕ, IsTrue}
use Rattle.std.specs.BTreeSet.{contains}
use Rattle.std.specs.Ordering.{nat_cmp}
use Rattle.odd_decls.specs.Faults.{IsStanding}
use Rattle.odd_decls.proofs.references.groups_standing.Given as goal

abbrev pub invariant-loop-item : goal.invariant-loop-item
invariant-loop-item l = (place : ℕ) → IsTrue (contains nat_cmp l.standing place) ↔ IsStanding (take l.item-index l.items) place
