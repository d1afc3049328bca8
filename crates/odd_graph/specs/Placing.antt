-- What the private functions of `ordering` keep while nodes of a graph are placed in an order.
use Rattle.std.specs.Prelude.{◌≡◌, ◌↔◌, ◌<◌, ◌+◌, ◌++◌, ℕ, Bool, List, length, count_by}
use Rattle.std.specs.List.{Contains}
use Rattle.odd_graph.specs.Graph.{HasArrow}
use Rattle.odd_graph.specs.Marking.{IsMarked}
use Rattle.odd_graph.specs.Ordering.{IsOrder}
use Rattle.odd_graph.specs.Passing.{AreOfAll, ArePassed, IsHeld}
use Rattle.odd_graph.specs.declared.ordering.Placing.{Placing}

-- how many nodes are left, with those in a list
abbrev pub left_or_in : List Bool → List ℕ → ℕ
left_or_in left nodes = count_by (λ is. is) left + length nodes

-- the nodes that are not left stand in an order
pub record Places (p : Placing) : Type 0 where
  pub all : AreOfAll p.passing.arrows.now p.passing.passed.items p.left.items
  pub passed : ArePassed p.passing.arrows.now p.passing.passed.items p.left.items
  pub order : IsOrder p.passing.arrows.now p.order.items
  pub placed : (node : ℕ) → Contains p.order.items node ↔ ((node < length p.passing.arrows.now) × (IsMarked p.left.items node → ⊥))
  pub count : left_or_in p.left.items p.order.items ≡ length p.passing.arrows.now

-- no node is left that was not before, and of these nodes each that is left has an arrow to one that was left before
pub record HasTried (arrows : List (List ℕ)) (old new : List Bool) (tried : ℕ → Type 0) : Type 0 where
  pub left : (node : ℕ) → IsMarked new node → IsMarked old node
  pub held : (node : ℕ) → tried node → IsMarked new node → IsHeld arrows old node

-- more nodes were placed, after those that stood in the order, and these were tried
pub record GoesOn (old new : Placing) (tried : ℕ → Type 0) : Type 0 where
  pub places : Places new
  pub arrows : new.passing.arrows ≡ old.passing.arrows
  pub order : (more : List ℕ) × (new.order.items ≡ old.order.items ++ more)
  pub tries : HasTried old.passing.arrows.now old.left.items new.left.items tried

-- each node that is left has an arrow to one that is kept
abbrev pub AreHeld : List (List ℕ) → List Bool → (ℕ → Type 0) → Type 0
AreHeld arrows left IsKept = (node : ℕ) → IsMarked left node → (next : ℕ) × HasArrow arrows node next × IsKept next

-- the node is none of these
abbrev pub IsNone : List ℕ → ℕ → Type 0
IsNone asked node = Contains asked node → ⊥
