-- Graphs: where arrows lead, and which nodes are on a cycle.
use Rattle.std.specs.Prelude.{◌≡◌, ◌<◌, ℕ, List, [], ◌∷◌, ◌++◌, Option, Some, None, length, get_or}
use Rattle.std.specs.List.{Contains}

-- one leads to another by steps, by one or more
pub data Chained {A : Type 0} (Step : A → A → Type 0) : A → A → Type 0 where
  at_once : {one other : A} → Step one other → Chained Step one other
  through : {one other : A} (between : A) → Step one between → Chained Step between other → Chained Step one other

-- an arrow leads from one node to another; an arrow to what is no node of the graph leads nowhere
pub record HasArrow (arrows : List (List ℕ)) (node next : ℕ) : Type 0 where
  pub among : Contains (get_or arrows node []) next
  pub within : next < length arrows

-- one node leads to another
abbrev pub Leads : List (List ℕ) → ℕ → ℕ → Type 0
Leads arrows = Chained (HasArrow arrows)

-- of the nodes that lead to themselves the first, where there is one
abbrev pub IsFirstOnCycle : List (List ℕ) → Option ℕ → Type 0
IsFirstOnCycle arrows None = (node : ℕ) → Leads arrows node node → ⊥
IsFirstOnCycle arrows (Some first) = Leads arrows first first × ((node : ℕ) → node < first → Leads arrows node node → ⊥)

-- each node stands there once
abbrev pub StandOnce : List ℕ → Type 0
StandOnce nodes = (before after : List ℕ) (node : ℕ) → nodes ≡ before ++ node ∷ after → Contains before node → ⊥
