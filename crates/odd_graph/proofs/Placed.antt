-- One node after the other is placed in an order, until all that can be placed is.
use Rattle.std.proofs.Common.{◌≡◌, ◌↔◌, ◌⊎◌, ◌<◌, ℕ, true, false, List, [], ◌∷◌, ◌++◌, length, set, cond, inl, inr, ⊎_elim, sym, ap, ◌∙◌, arith, ◌+◌, suc, get_or, take, drop, subst}
use Rattle.std.proofs.Math.ListN.{length-set}
use Rattle.std.proofs.Math.Seq.{split_at}
use Rattle.std.proofs.lemmas.Bool.{cases_eq}
use Rattle.std.proofs.lemmas.Grind.{common_steps}
use Rattle.std.proofs.lemmas.List.{append_assoc, append-nil, take-append-drop, take-append-le}
use Rattle.std.proofs.lemmas.List.Elements.{Contains-push_cases, Contains-append_left}
use Rattle.std.proofs.lemmas.List.FromFn.{get_or-range_with_len, length-range_with_len}
use Rattle.std.proofs.lemmas.List.Sums.{sum_by-set}
use Rattle.std.specs.List.{Contains, range_with_len}
use Rattle.odd_graph.proofs.Chains.{last_step, IsPart, by_rank}
use Rattle.odd_graph.proofs.OneMore.{one_cleared, contains_with, once_with, place_with, contains_next, marked_inside}
use Rattle.odd_graph.proofs.Tried.{held_on, passed_one, tried_on, tried_one}
use Rattle.odd_graph.specs.Graph.{HasArrow, Leads, at_once, through}
use Rattle.odd_graph.specs.Marking.{IsMarked}
use Rattle.odd_graph.specs.Ordering.{IsOrder, IsApart}
use Rattle.odd_graph.specs.Passing.{ArePassed, IsFree, IsHeld}
use Rattle.odd_graph.specs.Placing.{AreHeld, GoesOn, IsNone, Places}
use Rattle.odd_graph.specs.declared.ordering.Placing.{Placing}
use Rattle.odd_graph.specs.declared.passing.Passing.{Passing}

-- an order with one node more at its end, which did not stand there, and all that its arrows lead to did
order_with : (arrows : List (List ℕ)) (order : List ℕ) (node : ℕ) → IsOrder arrows order → node < length arrows → (Contains order node → ⊥) → ((next : ℕ) → HasArrow arrows node next → Contains order next)
    → IsOrder arrows (order ++ node ∷ [])
order_with arrows order node h within fresh all = record {
  within = λ other c. ⊎_elim (h.within other) (λ e. omega arith) (Contains-push_cases order node other c);
  once = once_with order node h.once fresh;
  after = λ before after other next e a.
      ⊎_elim (λ at. rw at.0 at (all next (rw at.1 a))) (λ at. h.after before at.0 other next at.1 a) (place_with order before after node other e);
}

-- what is placed then
one_placed : {All Was Before After Is Within : Type 0} → Is ⊎ (Is → ⊥) → All ↔ (Was ⊎ Is) → Was ↔ (Within × (Before → ⊥)) → After ↔ (Before × (Is → ⊥)) → (Is → Within) → All ↔ (Within × (After → ⊥))
one_placed is all was after within = grind arith

-- a node that is left and leads to none that is left can be placed
pub placed_one : (p q : Placing) (node : ℕ) → Places p → IsMarked p.left.items node → IsFree p.passing.arrows.now p.left.items node
    → q.passing ≡ p.passing → q.left.items ≡ set p.left.items node false → q.order.items ≡ p.order.items ++ node ∷ [] → GoesOn p q (λ tried. node ≡ tried)
placed_one p q node h marked free passing left order =
    let inside = marked_inside p.left.items node marked in
    let within : node < length p.passing.arrows.now = omega (arith, h.all.1) in
    record {
      places = record {
        all = rw (passing, left, length-set) h.all;
        passed = rw (passing, left) (passed_one _ _ _ node inside h.passed);
        order = rw (passing, order) (order_with _ _ node h.order within (λ c. ((h.placed node).0 c).1 marked) (λ next a. (h.placed next).1 (a.within, free next a)));
        placed = rw (passing, left, order) (λ other.
            one_placed (cases_eq node other) (contains_with p.order.items node other) (h.placed other) (one_cleared p.left.items node other inside) (λ e. omega arith));
        count = rw (passing, left, order) (grind (arith, common_steps, h.count, sum_by-set (λ is. cond is 1 0) p.left.items node false true inside));
      };
      arrows = ap (λ p. p.arrows) passing;
      order = (node ∷ [], order);
      tries = rw left (tried_one _ _ node inside);
    }

-- nothing was placed, but more arrows were passed
pub placed_none : (p : Placing) (passing : Passing) (tried : ℕ → Type 0) → Places p → passing.arrows ≡ p.passing.arrows → length passing.passed.items ≡ length p.passing.passed.items
    → ArePassed passing.arrows.now passing.passed.items p.left.items → ((node : ℕ) → tried node → IsMarked p.left.items node → IsHeld p.passing.arrows.now p.left.items node)
    → GoesOn p (record p { passing = passing }) tried
placed_none p passing tried h arrows same passed held = record {
  places = record {
    all = rw arrows (same ∙ h.all.0, h.all.1);
    passed = passed;
    order = rw arrows h.order;
    placed = rw arrows h.placed;
    count = rw arrows h.count;
  };
  arrows = arrows;
  order = ([], sym (append-nil p.order.items));
  tries = record { left = λ node is. is; held = held };
}

-- nodes are tried after others
pub placed_on : (p q r : Placing) (one two both : ℕ → Type 0) → GoesOn p q one → GoesOn q r two → ((node : ℕ) → both node → one node ⊎ two node) → GoesOn p r both
placed_on p q r one two both g h either = record {
  places = h.places;
  arrows = h.arrows ∙ g.arrows;
  order = (g.order.0 ++ h.order.0, h.order.1 ∙ ap (λ order. order ++ h.order.0) g.order.1 ∙ append_assoc p.order.items g.order.0 h.order.0);
  tries = tried_on g.tries (rw g.arrows at h.tries) either;
}

-- a list has at some place what it contains
part_of : (items : List ℕ) (item : ℕ) → Contains items item → IsPart items item
part_of items item (at, within, is) = (take at items, drop (suc at) items, subst (λ x. items ≡ take at items ++ x ∷ drop (suc at) items) is (split_at items at item within))

-- the front of a list contains only what the list does
contains_front : (items : List ℕ) (count item : ℕ) → Contains (take count items) item → Contains items item
contains_front items count item c = subst (λ all. Contains all item) (take-append-drop count items) (Contains-append_left (take count items) _ item c)

-- once the nodes with an arrow to one more node of the order were tried, each that is left has an arrow to one that is none of the front with that node
pub held_more : (p q : Placing) (back : List (List ℕ)) (place node : ℕ) → Places p → GoesOn p q (Contains (get_or back node []))
    → ((node next : ℕ) → HasArrow back next node ↔ HasArrow p.passing.arrows.now node next) → place < length p.order.items → get_or p.order.items place 0 ≡ node
    → AreHeld p.passing.arrows.now p.left.items (IsNone (take place p.order.items)) → AreHeld q.passing.arrows.now q.left.items (IsNone (take (place + 1) q.order.items))
held_more p q back place node h g turned within is held = rw (g.arrows, g.order.1, take-append-le (place + 1) p.order.items g.order.0 (omega arith)) (
    held_on (IsNone (take (place + 1) p.order.items)) g.tries (λ other marked c. ((h.placed other).0 (contains_front p.order.items (place + 1) other c)).1 marked)
    (λ other marked.
    let next = held other marked in
    ⊎_elim (λ e. inl ((turned other node).1 (rw e at next.1)).among)
    (λ apart. inr (next.0, next.1, λ c. ⊎_elim next.2 (λ e. apart (sym e ∙ is)) ((contains_next p.order.items place 0 next.0 within).0 c)))
    (cases_eq next.0 node)))

module _ (arrows : List (List ℕ)) (order : List ℕ) (is : IsOrder arrows order) where
  -- what a node of the order leads to stands before it
  before_it : (node other : ℕ) → Leads arrows node other → (before after : List ℕ) → order ≡ before ++ node ∷ after → Contains before other
  before_it node other (at_once a) before after e = is.after before after node other e a
  before_it node other (through between a l) before after e =
      let part = part_of before between (is.after before after node between e a) in
      let same = e ∙ ap (λ items. items ++ node ∷ after) part.2 ∙ append_assoc part.0 (between ∷ part.1) (node ∷ after) in
      rw part.2 (Contains-append_left part.0 (between ∷ part.1) other (before_it between other l part.0 (part.1 ++ node ∷ after) same))

  -- so it is on no cycle
  on_none : (node : ℕ) → Contains order node → Leads arrows node node → ⊥
  on_none node c l = let part = part_of order node c in is.once part.0 part.1 node part.2 (before_it node node l part.0 part.1 part.2)

  -- and leads to none
  placed_apart : (node : ℕ) → Contains order node → IsApart arrows node
  placed_apart node c other one =
      on_none other (⊎_elim (λ e. rw e c) (λ l. let part = part_of order node c in rw part.2 (Contains-append_left part.0 (node ∷ part.1) other (before_it node other l part.0 part.1 part.2))) one)

-- each number below another is one of those below it
number_below : (count node : ℕ) → node < count → IsPart (range_with_len 0 count) node
number_below count node within = part_of (range_with_len 0 count) node (node, rw length-range_with_len within, omega (arith, get_or-range_with_len 0 count node node within))

-- a node that leads to no cycle is placed, where each that is left has an arrow to one that is not placed
apart_placed : (p : Placing) (node : ℕ) → Places p → AreHeld p.passing.arrows.now p.left.items (IsNone p.order.items) → node < length p.passing.arrows.now → IsApart p.passing.arrows.now node
    → Contains p.order.items node
apart_placed p node h held within apart =
    let arrows = p.passing.arrows.now in
    (h.placed node).1 (
      within,
      by_rank (HasArrow arrows) (λ _ one. IsMarked p.left.items one → ⊥)
          (λ _ one all marked. let next = held one marked in next.2 ((h.placed next.0).1 (next.1.within, all next.0 next.1)))
          (length arrows) (range_with_len 0 (length arrows)) node (rw length-range_with_len (omega arith))
          (λ other l. number_below (length arrows) other (last_step (HasArrow arrows) node other l).1.within)
          (λ other l. apart other (inr l)),
    )

-- at the end those are placed that lead to no cycle
pub all_placed : (p : Placing) → Places p → AreHeld p.passing.arrows.now p.left.items (IsNone p.order.items)
    → (node : ℕ) → Contains p.order.items node ↔ ((node < length p.passing.arrows.now) × IsApart p.passing.arrows.now node)
all_placed p h held node = (λ c. (h.order.within node c, placed_apart p.passing.arrows.now p.order.items h.order node c), λ is. apart_placed p node h held is.0 is.1)
