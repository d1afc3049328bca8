-- The nodes that a node leads to, gone on from one after the other.
use Rattle.std.proofs.Common.{◌≡◌, ◌↔◌, ◌⊎◌, ◌<◌, ◌≤◌, ◌+◌, ℕ, Bool, false, List, [], ◌∷◌, length, get_or, take, inl, inr, ⊎_elim, sym, ap, subst, ◌∙◌, arith}
use Rattle.std.proofs.lemmas.Bool.{cases_Bool}
use Rattle.std.proofs.lemmas.List.{get_or_default, take-append-le, take_all}
use Rattle.std.proofs.lemmas.List.Elements.{Contains-append_left}
use Rattle.std.specs.List.{Contains}
use Rattle.odd_graph.specs.Graph.{HasArrow, Leads, StandOnce, at_once, through}
use Rattle.odd_graph.specs.Marking.{AreClear, HasCleared, HasMarked}
use Rattle.odd_graph.specs.Marking.{IsMarked}
use Rattle.odd_graph.proofs.Chains.{chained_on}
use Rattle.odd_graph.proofs.OneMore.{contains_next}

-- each node to which its arrows lead was reached
abbrev pub AreNextReached : List (List ℕ) → List ℕ → ℕ → Type 0
AreNextReached arrows nodes node = (next : ℕ) → HasArrow arrows node next → Contains nodes next

-- what was reached, where those before the place were gone on from
pub record ReachedSoFar (arrows : List (List ℕ)) (from : ℕ) (marks : List Bool) (nodes : List ℕ) (place : ℕ) : Type 0 where
  pub same : length marks ≡ length arrows
  pub once : StandOnce nodes
  pub marked : (node : ℕ) → IsMarked marks node ↔ Contains nodes node
  pub led : (node : ℕ) → Contains nodes node → Leads arrows from node
  pub first : AreNextReached arrows nodes from
  pub gone_on : (node : ℕ) → Contains (take place nodes) node → AreNextReached arrows nodes node

-- nothing is in the empty list
absurd_in : (node : ℕ) → Contains [] node → ⊥
absurd_in node c = omega (arith, c.1)

-- what has a mark was reached, where what gets one is
marked_reached : {Was Now Next Nodes All : Type 0} → Was ↔ Nodes → Now ↔ (Was ⊎ Next) → All ↔ (Nodes ⊎ (Now × (Was → ⊥))) → (Was ⊎ (Was → ⊥)) → Now ↔ All
marked_reached was now all either = grind arith

-- a node has the mark or not
marked_or_not : (marks : List Bool) (node : ℕ) → IsMarked marks node ⊎ (IsMarked marks node → ⊥)
marked_or_not marks node = grind (arith, cases_Bool (get_or marks node false))

module _ (arrows : List (List ℕ)) (from node : ℕ) (marks made : List Bool) (nodes all : List ℕ) (m : HasMarked (get_or arrows node []) marks made nodes all) (same : length marks ≡ length arrows)
    (marked : (other : ℕ) → IsMarked marks other ↔ Contains nodes other) where
  -- what was reached has a mark, and nothing else
  all_marked : (other : ℕ) → IsMarked made other ↔ Contains all other
  all_marked other = marked_reached (marked other) (m.marked other) (m.fresh other) (marked_or_not marks other)

  -- what the node leads to was reached
  next_reached : AreNextReached arrows all node
  next_reached next a = (all_marked next).0 ((m.marked next).1 (inr (a.among, omega (arith, same, a.within))))

  -- what was reached before, or an arrow of the node leads there
  either_reached : (other : ℕ) → Contains all other → Contains nodes other ⊎ HasArrow arrows node other
  either_reached other c =
      ⊎_elim inl (λ f. ⊎_elim (λ was. absurd (f.1 was)) (λ n. inr (record { among = n.0; within = omega (arith, same, n.1) })) ((m.marked other).0 f.0)) ((m.fresh other).0 c)

  -- what was reached before
  still : (other : ℕ) → Contains nodes other → Contains all other
  still other c = (m.fresh other).1 (inl c)

  -- they stand there once
  all_once : StandOnce nodes → StandOnce all
  all_once once = m.once once (λ other c. (marked other).1 c)

-- the search begins with the arrows of the node
pub reached_first : (arrows : List (List ℕ)) (from : ℕ) (marks made : List Bool) (nodes all : List ℕ) → AreClear arrows marks → nodes ≡ [] → HasMarked (get_or arrows from []) marks made nodes all
    → ReachedSoFar arrows from made all 0
reached_first arrows from marks made nodes all clear empty m =
    let none : (other : ℕ) → Contains nodes other → ⊥ = λ other c. absurd_in other (subst (λ xs. Contains xs other) empty c) in
    let marked : (other : ℕ) → IsMarked marks other ↔ Contains nodes other = λ other. (λ is. absurd (clear.none other is), λ c. absurd (none other c)) in
    record {
      same = m.same ∙ clear.of_all;
      once = all_once arrows from from marks made nodes all m clear.of_all marked (λ before after other e c. none other (subst (λ xs. Contains xs other) (sym e) (Contains-append_left before (other ∷ after) other c)));
      marked = all_marked arrows from from marks made nodes all m clear.of_all marked;
      led = λ other c. ⊎_elim (λ n. absurd (none other n)) at_once (either_reached arrows from from marks made nodes all m clear.of_all marked other c);
      first = next_reached arrows from from marks made nodes all m clear.of_all marked;
      gone_on = λ other c. absurd (absurd_in other c);
    }

-- a node that was reached is gone on from
pub reached_more : (arrows : List (List ℕ)) (from node : ℕ) (marks made : List Bool) (nodes all : List ℕ) (place : ℕ) → ReachedSoFar arrows from marks nodes place → place < length nodes
    → get_or nodes place 0 ≡ node → HasMarked (get_or arrows node []) marks made nodes all → ReachedSoFar arrows from made all (place + 1)
reached_more arrows from node marks made nodes all place h within is m =
    let front : take (place + 1) all ≡ take (place + 1) nodes = ap (take (place + 1)) m.more.1 ∙ take-append-le (place + 1) nodes m.more.0 (omega arith) in
    let here : Contains nodes node = (place, within, get_or_default nodes place node 0 within ∙ is) in
    record {
      same = m.same ∙ h.same;
      once = all_once arrows from node marks made nodes all m h.same h.marked h.once;
      marked = all_marked arrows from node marks made nodes all m h.same h.marked;
      led = λ other c. ⊎_elim (h.led other) (λ a. chained_on (HasArrow arrows) from node other (h.led node here) (at_once a)) (either_reached arrows from node marks made nodes all m h.same h.marked other c);
      first = λ next a. still arrows from node marks made nodes all m h.same h.marked next (h.first next a);
      gone_on = λ other c next a.
          ⊎_elim (λ b. still arrows from node marks made nodes all m h.same h.marked next (h.gone_on other b next a))
          (λ e. next_reached arrows from node marks made nodes all m h.same h.marked next (subst (λ n. HasArrow arrows n next) (sym e ∙ is) a))
          ((contains_next nodes place 0 other within).0 (subst (λ xs. Contains xs other) front c));
    }

module _ (arrows : List (List ℕ)) (from : ℕ) (marks : List Bool) (nodes : List ℕ) (place : ℕ) (h : ReachedSoFar arrows from marks nodes place) (end : length nodes ≤ place) where
  -- each node that one of them leads to was reached
  on_reached : (node next : ℕ) → AreNextReached arrows nodes node → Leads arrows node next → Contains nodes next
  on_reached node next all (at_once a) = all next a
  on_reached node next all (through between a l) = on_reached between next (h.gone_on between (subst (λ xs. Contains xs between) (sym (take_all place nodes end)) (all between a))) l

  -- at the end those were reached that the node leads to
  pub all_reached : (node : ℕ) → Contains nodes node ↔ Leads arrows from node
  all_reached node = (h.led node, on_reached from node h.first)

  -- and once their marks are taken back none is set
  pub all_clear : (made : List Bool) → HasCleared nodes marks made → AreClear arrows made
  all_clear made c = record { of_all = c.same ∙ h.same; none = λ node is. let was = (c.marked node).0 is in was.1 ((h.marked node).0 was.0) }
