-- What the private functions of `leading` keep of a graph: which nodes lead to classes of type `model`, and the graph without arrows to others.
use Rattle.std.specs.Prelude.{◌≡◌, ◌↔◌, ◌⊎◌, ℕ, Bool, List, length}
use Rattle.odd_graph.specs.Graph.{HasArrow, Leads}
use Rattle.odd_graph.specs.Marking.{IsMarked}
use Rattle.odd_library.specs.declared.library.Component.{Component}
use Rattle.odd_text.specs.declared.key.Key.{Key}
use Rattle.odd_classes.specs.Listing.{IsModelAt}

-- a class of type `model` stands at the place
abbrev pub IsModelHere : List (Key × Component) → ℕ → Type 0
IsModelHere entries place = (class : List ℕ) × IsModelAt entries place class

-- one stands there, or at a place that this one leads to
abbrev pub LeadsToModel : List (Key × Component) → List (List ℕ) → ℕ → Type 0
LeadsToModel entries arrows node = IsModelHere entries node ⊎ ((place : ℕ) × Leads arrows node place × IsModelHere entries place)

-- of the arrows those to nodes that have a mark
pub record AreKept (arrows : List (List ℕ)) (marks : List Bool) (made : List (List ℕ)) : Type 0 where
  pub same : length made ≡ length arrows
  pub each : (node next : ℕ) → HasArrow made node next ↔ (HasArrow arrows node next × IsMarked marks next)

-- the graph leads to classes of type `model` just where the other does
pub record LeadAlike (entries : List (Key × Component)) (arrows made : List (List ℕ)) : Type 0 where
  pub same : length made ≡ length arrows
  pub alike : (from place : ℕ) (class : List ℕ) → IsModelAt entries place class → Leads made from place ↔ Leads arrows from place
