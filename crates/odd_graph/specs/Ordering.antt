-- Nodes in an order in which each stands after those that its arrows lead to.
use Rattle.std.specs.Prelude.{◌≡◌, ◌<◌, ◌⊎◌, ℕ, List, ◌∷◌, ◌++◌, length}
use Rattle.std.specs.List.{Contains}
use Rattle.odd_graph.specs.Graph.{HasArrow, Leads, StandOnce}

-- each is a node and stands there once, and before it those that its arrows lead to
pub record IsOrder (arrows : List (List ℕ)) (order : List ℕ) : Type 0 where
  pub within : (node : ℕ) → Contains order node → node < length arrows
  pub once : StandOnce order
  pub after : (before after : List ℕ) (node next : ℕ) → order ≡ before ++ node ∷ after → HasArrow arrows node next → Contains before next

-- the node leads to no cycle, and is on none
abbrev pub IsApart : List (List ℕ) → ℕ → Type 0
IsApart arrows node = (other : ℕ) → (other ≡ node) ⊎ Leads arrows node other → Leads arrows other other → ⊥
