-- Nodes are tried one after the other, and some are no longer left.
use Rattle.std.proofs.Common.{◌≡◌, ◌⊎◌, ◌<◌, ℕ, Bool, false, List, length, set, ⊎_elim}
use Rattle.std.proofs.Math.ListN.{length-set}
use Rattle.odd_graph.proofs.OneMore.{one_cleared}
use Rattle.odd_graph.specs.Graph.{HasArrow}
use Rattle.odd_graph.specs.Marking.{IsMarked}
use Rattle.odd_graph.specs.Passing.{ArePassed}
use Rattle.odd_graph.specs.Placing.{AreHeld, HasTried}

-- one node is no longer left
pub tried_one : (arrows : List (List ℕ)) (left : List Bool) (node : ℕ) → node < length left → HasTried arrows left (set left node false) (λ tried. node ≡ tried)
tried_one arrows left node inside = let now = λ (other : ℕ). (one_cleared left node other inside).0 in record { left = λ other is. (now other is).0; held = λ other e is. absurd ((now other is).1 e) }

-- the arrows that were passed still lead to none that is left
pub passed_one : (arrows : List (List ℕ)) (passed : List ℕ) (left : List Bool) (node : ℕ) → node < length left → ArePassed arrows passed left → ArePassed arrows passed (set left node false)
passed_one arrows passed left node inside p = rw length-set (λ other at lt is. p other at lt ((one_cleared left node _ inside).0 is).0)

-- nodes are tried after others
pub tried_on : {arrows : List (List ℕ)} {was now then : List Bool} {one two both : ℕ → Type 0} → HasTried arrows was now one → HasTried arrows now then two → ((node : ℕ) → both node → one node ⊎ two node)
    → HasTried arrows was then both
tried_on g h either = record {
  left = λ node is. g.left node (h.left node is);
  held = λ node b is. ⊎_elim (λ o. g.held node o (h.left node is)) (λ t. let next = h.held node t is in (next.0, next.1, g.left next.0 next.2)) (either node b);
}

-- what is left has arrows to what is kept, where each that had none was tried
pub held_on : {arrows : List (List ℕ)} {old new : List Bool} {tried : ℕ → Type 0} (IsKept : ℕ → Type 0) → HasTried arrows old new tried → ((node : ℕ) → IsMarked old node → IsKept node)
    → ((node : ℕ) → IsMarked old node → tried node ⊎ ((next : ℕ) × HasArrow arrows node next × IsKept next)) → AreHeld arrows new IsKept
held_on IsKept h keep each node is = ⊎_elim (λ t. let next = h.held node t is in (next.0, next.1, keep next.0 next.2)) (λ k. k) (each node (h.left node is))
