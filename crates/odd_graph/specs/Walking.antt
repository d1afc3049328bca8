-- What a walk over a graph keeps of the nodes that it has seen.
use Rattle.std.specs.Prelude.{◌≡◌, ◌↔◌, ◌⊎◌, ◌<◌, ◌≤◌, ◌+◌, ◌∷◌, ◌++◌, ℕ, Bool, List, [], length, get_or}
use Rattle.std.specs.List.{Contains}
use Rattle.odd_graph.specs.Graph.{HasArrow, Leads}
use Rattle.odd_graph.specs.Marking.{IsMarked}
use Rattle.odd_graph.specs.declared.walk.Part.{Part}
use Rattle.odd_graph.specs.declared.walk.Walk.{Walk}

-- the node stands at the place
abbrev pub StandsAt : List ℕ → ℕ → ℕ → Type 0
StandsAt nodes place node = (place < length nodes) × (get_or nodes place 0 ≡ node)

-- the node is open
abbrev pub IsOpen : List ℕ → ℕ → Type 0
IsOpen stack node = (place : ℕ) × StandsAt stack place node

-- the node was seen, and is open no more
abbrev pub IsDone : List Bool → List ℕ → ℕ → Type 0
IsDone seen stack node = IsMarked seen node × (IsOpen stack node → ⊥)

-- each open node leads to the node
abbrev pub AreLedTo : List (List ℕ) → List ℕ → ℕ → Type 0
AreLedTo arrows stack node = (place : ℕ) → place < length stack → Leads arrows (get_or stack place 0) node

-- a part begins at the place
abbrev pub IsStart : List Part → ℕ → Type 0
IsStart parts place = (part : Part) × Contains parts part × (part.start ≡ place)

-- what stands at the place leads to what stands before it, and both have the mark
pub record IsJoined (arrows : List (List ℕ)) (marks : List Bool) (stack : List ℕ) (place : ℕ) : Type 0 where
  pub before : ℕ
  pub next : place ≡ before + 1
  pub back : Leads arrows (get_or stack place 0) (get_or stack before 0)
  pub marked : IsMarked marks (get_or stack place 0)
  pub marked_before : IsMarked marks (get_or stack before 0)

-- what waits at this number among the targets is owed to the part of the place
abbrev pub IsOwed : List Part → ℕ → ℕ → Type 0
IsOwed parts place at = (part : Part) → Contains parts part → (part.start ≤ place) ↔ (part.work ≤ at)

-- the target waits, and is owed to the part of the place
pub record Waits (parts : List Part) (work : List ℕ) (place next : ℕ) : Type 0 where
  pub at : ℕ
  pub stands : StandsAt work at next
  pub owed : IsOwed parts place at

-- the target stands in the part of the place, or a later one
pub record IsLater (stack : List ℕ) (parts : List Part) (marks : List Bool) (place next : ℕ) : Type 0 where
  pub at : ℕ
  pub stands : StandsAt stack at next
  pub later : (part : Part) → Contains parts part → part.start ≤ place → part.start ≤ at
  pub marked : place ≡ at → IsMarked marks next

-- an arrow of the node at a place leads to the target that waits
pub record IsTarget (arrows : List (List ℕ)) (stack : List ℕ) (parts : List Part) (place at next : ℕ) : Type 0 where
  pub within : place < length stack
  pub among : Contains (get_or arrows (get_or stack place 0) []) next
  pub owed : IsOwed parts place at

-- what an arrow of the node at the place leads to is in hand, or done, or stands in the same part or a later one, or waits
abbrev pub IsFollowed : List Bool → List ℕ → List Part → List ℕ → List Bool → (ℕ → Type 0) → ℕ → ℕ → Type 0
IsFollowed seen stack parts work marks hand place next = hand next ⊎ (IsDone seen stack next ⊎ (IsLater stack parts marks place next ⊎ Waits parts work place next))

-- parts that stand later start later
abbrev pub AreInOrder : List Part → Type 0
AreInOrder parts = (before after : List Part) (part other : Part) → parts ≡ before ++ part ∷ after → Contains before other → other.start < part.start

-- what a walk keeps, where arrows to those in hand are still to be followed
pub record Keeps (arrows : List (List ℕ)) (seen : List Bool) (places stack : List ℕ) (parts : List Part) (work : List ℕ) (marks : List Bool) (hand : ℕ → Type 0) : Type 0 where
  pub all_seen : length seen ≡ length arrows
  pub all_places : length places ≡ length arrows
  pub all_marks : length marks ≡ length arrows
  pub placed : (place : ℕ) → place < length stack → IsMarked seen (get_or stack place 0) × (get_or places (get_or stack place 0) 0 ≡ place)
  pub led : (place later : ℕ) → place < later → later < length stack → Leads arrows (get_or stack place 0) (get_or stack later 0)
  pub joined : (place : ℕ) → place < length stack → IsStart parts place ⊎ IsJoined arrows marks stack place
  pub order : AreInOrder parts
  pub within : (part : Part) → Contains parts part → (part.start < length stack) × (part.work ≤ length work)
  pub targets : (at : ℕ) → at < length work → (place : ℕ) × IsTarget arrows stack parts place at (get_or work at 0)
  pub followed : (place next : ℕ) → place < length stack → HasArrow arrows (get_or stack place 0) next → IsFollowed seen stack parts work marks hand place next
  pub closed : (node next : ℕ) → IsDone seen stack node → HasArrow arrows node next → IsDone seen stack next
  pub sound : (node : ℕ) → IsMarked marks node → Leads arrows node node
  pub found : (node : ℕ) → IsDone seen stack node → Leads arrows node node → IsMarked marks node

-- the same of a walk
abbrev pub KeepsAll : Walk → (ℕ → Type 0) → Type 0
KeepsAll w hand = Keeps w.arrows.now w.seen.items w.places.items w.stack.items w.parts.items w.work.items w.marks.items hand

-- none is in hand
abbrev pub no_node : ℕ → Type 0
no_node node = ⊥

-- the node is new, and in hand, and each that is open leads to it
pub record Awaits (w : Walk) (node : ℕ) : Type 0 where
  pub keeps : KeepsAll w (λ other. node ≡ other)
  pub led : AreLedTo w.arrows.now w.stack.items node
  pub within : node < length w.arrows.now
  pub new : IsMarked w.seen.items node → ⊥
