-- Marks set at a node of a graph and at those that it leads to, one after the other.
use Rattle.std.proofs.Common.{◌≡◌, ◌↔◌, ◌⊎◌, ◌<◌, ◌≤◌, ◌+◌, ℕ, Bool, true, false, List, [], Some, length, get_or, set, take, slice_get, inl, inr, ⊎_elim, ap, subst, ◌∙◌, arith}
use Rattle.std.proofs.Math.ListN.{length-set}
use Rattle.std.proofs.lemmas.List.{take_all}
use Rattle.std.proofs.lemmas.Option.{get_or_from_slice_get, slice_get-get_or}
use Rattle.std.specs.List.{Contains}
use Rattle.odd_graph.proofs.OneMore.{contains_next, one_marked}
use Rattle.odd_graph.specs.Graph.{Leads}
use Rattle.odd_graph.specs.Marking.{AreClear, IsMarked}

-- the marks where those of the first and of these nodes are set
pub record MarkedSoFar (arrows : List (List ℕ)) (first : ℕ) (nodes : List ℕ) (marks : List Bool) : Type 0 where
  pub same : length marks ≡ length arrows
  pub marked : (node : ℕ) → IsMarked marks node ↔ ((node < length arrows) × ((node ≡ first) ⊎ Contains nodes node))

-- nothing is in the empty list
absurd_in : (node : ℕ) → Contains [] node → ⊥
absurd_in node c = omega (arith, c.1)

-- the mark of the first is set
pub first_set : (arrows : List (List ℕ)) (first : ℕ) (marks : List Bool) → AreClear arrows marks → first < length arrows → MarkedSoFar arrows first [] (set marks first true)
first_set arrows first marks clear within = record {
  same = simp length-set clear.of_all;
  marked = λ node. grind (arith, clear.of_all, clear.none node, one_marked marks first node (omega (arith, clear.of_all)), absurd_in node);
}

-- then that of the next node
pub next_set : (arrows : List (List ℕ)) (first : ℕ) (nodes : List ℕ) (marks : List Bool) (i : ℕ) → MarkedSoFar arrows first (take i nodes) marks → i < length nodes
    → get_or nodes i 0 < length marks → MarkedSoFar arrows first (take (i + 1) nodes) (set marks (get_or nodes i 0) true)
next_set arrows first nodes marks i h more within = record {
  same = simp length-set h.same;
  marked = λ node. grind (arith, h.same, h.marked node, one_marked marks (get_or nodes i 0) node within, contains_next nodes i 0 node more);
}

-- which may be no node of the graph
pub next_past : (arrows : List (List ℕ)) (first : ℕ) (nodes : List ℕ) (marks : List Bool) (i : ℕ) → MarkedSoFar arrows first (take i nodes) marks → i < length nodes
    → (get_or nodes i 0 < length marks → ⊥) → MarkedSoFar arrows first (take (i + 1) nodes) marks
next_past arrows first nodes marks i h more past = record {
  same = h.same;
  marked = λ node. grind (arith, h.same, h.marked node, contains_next nodes i 0 node more);
}

-- at the end those are set of the first and of the nodes that it leads to
pub all_set : (arrows : List (List ℕ)) (first : ℕ) (nodes : List ℕ) (marks : List Bool) (i : ℕ) → MarkedSoFar arrows first (take i nodes) marks → length nodes ≤ i
    → ((node : ℕ) → Contains nodes node ↔ Leads arrows first node) → (place : ℕ) → (slice_get marks place ≡ Some true) ↔ ((place < length arrows) × ((place ≡ first) ⊎ Leads arrows first place))
all_set arrows first nodes marks i h end led place =
    let here : IsMarked marks place ↔ ((place < length arrows) × ((place ≡ first) ⊎ Contains nodes place)) =
    subst (λ xs. IsMarked marks place ↔ ((place < length arrows) × ((place ≡ first) ⊎ Contains xs place))) (take_all i nodes end) (h.marked place) in (
      λ got. let is = here.0 (get_or_from_slice_get marks place true false got) in (is.0, ⊎_elim inl (λ c. inr ((led place).0 c)) is.1),
      λ is.
          let set_here = here.1 (is.0, ⊎_elim inl (λ l. inr ((led place).1 l)) is.1) in
          slice_get-get_or marks place false (omega (arith, h.same, is.0)) ∙ ap Some set_here,
    )
