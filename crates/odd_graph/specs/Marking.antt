-- Marks of nodes: what marking some of a graph does, and what taking the marks back does.
use Rattle.std.specs.Prelude.{◌≡◌, ◌↔◌, ◌⊎◌, ◌<◌, ◌+◌, ◌++◌, ℕ, Bool, false, not, List, length, count_by, get_or, IsTrue}
use Rattle.std.specs.List.{Contains}
use Rattle.odd_graph.specs.Graph.{StandOnce}

-- the node has the mark
abbrev pub IsMarked : List Bool → ℕ → Type 0
IsMarked marks node = IsTrue (get_or marks node false)

-- how many nodes have none, with how many are still to be gone on from
abbrev pub to_come : List Bool → List ℕ → ℕ
to_come marks waiting = count_by not marks + length waiting

-- a mark for each node, and none is set
pub record AreClear (arrows : List (List ℕ)) (marks : List Bool) : Type 0 where
  pub of_all : length marks ≡ length arrows
  pub none : (node : ℕ) → IsMarked marks node → ⊥

-- the marks and the nodes that were reached before and after these are marked, those of them that are nodes of the graph
pub record HasMarked (nexts : List ℕ) (marks made : List Bool) (nodes all : List ℕ) : Type 0 where
  pub same : length made ≡ length marks
  pub marked : (node : ℕ) → IsMarked made node ↔ (IsMarked marks node ⊎ (Contains nexts node × (node < length marks)))
  pub more : (more : List ℕ) × (all ≡ nodes ++ more)
  pub fresh : (node : ℕ) → Contains all node ↔ (Contains nodes node ⊎ (IsMarked made node × (IsMarked marks node → ⊥)))
  pub once : StandOnce nodes → ((node : ℕ) → Contains nodes node → IsMarked marks node) → StandOnce all
  pub count : to_come made all ≡ to_come marks nodes

-- the marks before and after those of these nodes are taken back
pub record HasCleared (nodes : List ℕ) (marks made : List Bool) : Type 0 where
  pub same : length made ≡ length marks
  pub marked : (node : ℕ) → IsMarked made node ↔ (IsMarked marks node × (Contains nodes node → ⊥))
