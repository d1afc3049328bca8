-- Arrows that are known to lead to no node that is left, and which nodes have such arrows alone.
use Rattle.std.specs.Prelude.{◌≡◌, ◌<◌, ◌≤◌, ℕ, Bool, List, [], length, get_or}
use Rattle.odd_graph.specs.Graph.{HasArrow}
use Rattle.odd_graph.specs.Marking.{IsMarked}

-- no arrow of the node leads to one that is left
abbrev pub IsFree : List (List ℕ) → List Bool → ℕ → Type 0
IsFree arrows left node = (next : ℕ) → HasArrow arrows node next → IsMarked left next → ⊥

-- an arrow of the node leads to one that is left
abbrev pub IsHeld : List (List ℕ) → List Bool → ℕ → Type 0
IsHeld arrows left node = (next : ℕ) × HasArrow arrows node next × IsMarked left next

-- each node has a place that was passed, and only nodes have a mark
abbrev pub AreOfAll : List (List ℕ) → List ℕ → List Bool → Type 0
AreOfAll arrows passed left = (length passed ≡ length arrows) × (length left ≤ length arrows)

-- of each node the arrows before the place that was passed lead to none that is left
abbrev pub ArePassed : List (List ℕ) → List ℕ → List Bool → Type 0
ArePassed arrows passed left = (node at : ℕ) → at < get_or passed node 0 → IsMarked left (get_or (get_or arrows node []) at (length left)) → ⊥
