-- Lists with one item more: nodes that are added and marked, and arrows that are turned round.
use Rattle.std.proofs.Common.{refl, ◌≡◌, ◌≢◌, ◌↔◌, ◌⊎◌, ◌<◌, ◌+◌, ℕ, List, [], ◌∷◌, ◌++◌, length, get_or, set, take, inl, inr, ⊎_elim, sym, subst, ap, ◌≤◌, arith, Bool, true, false, not, cond, ◌∙◌}
use Rattle.std.proofs.Math.ListN.{length-set}
use Rattle.std.proofs.lemmas.Bool.{false≢true}
use Rattle.std.proofs.lemmas.Bool.Decides.{eqb_tells}
use Rattle.std.proofs.lemmas.Grind.{common_steps}
use Rattle.std.proofs.lemmas.List.{get_or-set_other, get_or-set_same, take_more, get_or_read, append_assoc}
use Rattle.std.proofs.lemmas.List.Elements.{Contains-append_left, Contains-push, Contains-push_cases}
use Rattle.std.proofs.lemmas.List.Sums.{sum_by-set}
use Rattle.std.specs.List.{Contains}
use Rattle.odd_graph.specs.Adding.{HasAdded}
use Rattle.odd_graph.specs.Graph.{StandOnce, HasArrow}
use Rattle.odd_graph.specs.Marking.{HasMarked}
use Rattle.odd_graph.specs.Marking.{IsMarked}

-- what a list with one item more contains
pub contains_with : {X : Type 0} (xs : List X) (y x : X) → Contains (xs ++ y ∷ []) x ↔ (Contains xs x ⊎ (y ≡ x))
contains_with xs y x = (
  Contains-push_cases xs y x,
  λ h. ⊎_elim (Contains-append_left xs (y ∷ []) x) (λ e. subst (Contains (xs ++ y ∷ [])) e (Contains-push xs y)) h,
)

-- what the front of a list contains with the next item
pub contains_next : {X : Type 0} (xs : List X) (i : ℕ) (d x : X) → i < length xs → Contains (take (i + 1) xs) x ↔ (Contains (take i xs) x ⊎ (get_or xs i d ≡ x))
contains_next xs i d x within = rw (take_more xs i d within) (contains_with (take i xs) (get_or xs i d) x)

-- what stands at a place of a list, where an item was put at one
pub stands_at : {X : Type 0} (xs : List X) (i : ℕ) (y d : X) → i < length xs → (at : ℕ)
    → ((i ≡ at) × (get_or (set xs i y) at d ≡ y) × (get_or xs i d ≡ get_or xs at d)) ⊎ ((i ≢ at) × (get_or (set xs i y) at d ≡ get_or xs at d))
stands_at xs i y d within at =
    ⊎_elim (λ t. inl (t.1, rw (← t.1) (get_or-set_same xs i y d within), ap (λ n. get_or xs n d) t.1)) (λ t. inr (t.1, get_or-set_other xs i at y d (λ e. t.1 (sym e)))) (eqb_tells i at)

-- a place in a list with one item more is the last one, or one of the list's
pub place_with : {X : Type 0} (items before after : List X) (last item : X) → items ++ last ∷ [] ≡ before ++ item ∷ after
    → ((items ≡ before) × (last ≡ item)) ⊎ ((rest : List X) × (items ≡ before ++ item ∷ rest))
place_with [] [] after last item e = inl (refl, cc)
place_with [] (x ∷ []) after last item e = cc
place_with [] (x ∷ y ∷ before) after last item e = cc
place_with (x ∷ items) [] after last item e = inr (items, cc)
place_with (x ∷ items) (y ∷ before) after last item e =
    ⊎_elim (λ at. let same = at.0 in inl (cc, at.1)) (λ at. let same = at.1 in inr (at.0, cc)) (place_with items before after last item cc)

-- what stands once with one node more, which did not stand there
pub once_with : (nodes : List ℕ) (node : ℕ) → StandOnce nodes → (Contains nodes node → ⊥) → StandOnce (nodes ++ node ∷ [])
once_with nodes node once fresh before after other e c = ⊎_elim (λ at. fresh (rw (at.0, at.1) c)) (λ at. once before at.0 other at.1 c) (place_with nodes before after node other e)

-- the next number is no list's
pub added_to_none : (others : List ℕ) (i node : ℕ) (lists made : List (List ℕ)) → HasAdded (take i others) node lists made → i < length others → length made ≤ get_or others i 0
    → HasAdded (take (i + 1) others) node lists made
added_to_none others i node lists made h within past = record {
  same = h.same;
  added = λ other item. grind (arith, h.same, h.added other item, contains_next others i 0 other within);
}

-- what the lists contain with a node at the end of one of them
one_added : (lists : List (List ℕ)) (i node other item : ℕ) → i < length lists
    → Contains (get_or (set lists i (get_or lists i [] ++ node ∷ [])) other []) item ↔ (Contains (get_or lists other []) item ⊎ ((i ≡ other) × (node ≡ item)))
one_added lists i node other item within = grind (arith, stands_at lists i (get_or lists i [] ++ node ∷ []) [] within other, contains_with (get_or lists i []) node item)

-- what a list then contains: what it had before, and the node where its number is among the front with the next
one_more : {All Some Before Is Among Next Within More : Type 0} → All ↔ (Some ⊎ (Next × Is)) → Some ↔ (Before ⊎ (Is × Among × Within)) → More ↔ (Among ⊎ Next) → (Next → Within)
    → All ↔ (Before ⊎ (Is × More × Within))
one_more all some more within = grind arith

-- the node is put at the end of the list that has the next number
pub added_to_one : (others list : List ℕ) (i node : ℕ) (lists made : List (List ℕ)) → HasAdded (take i others) node lists made → i < length others → get_or others i 0 < length made
    → list ≡ get_or made (get_or others i 0) list → HasAdded (take (i + 1) others) node lists (set made (get_or others i 0) (list ++ node ∷ []))
added_to_one others list i node lists made h within inside is = rw (get_or_read made (get_or others i 0) list inside is []) (record {
  same = simp length-set h.same;
  added = λ other item. one_more (one_added made (get_or others i 0) node other item inside) (h.added other item) (contains_next others i 0 other within) (λ e. omega (arith, h.same));
})

-- the next number is no node's, or its node has the mark
pub marked_before : (nexts : List ℕ) (marks made : List Bool) (nodes all : List ℕ) (i : ℕ) → HasMarked (take i nexts) marks made nodes all → i < length nexts
    → (get_or nexts i 0 < length made → IsMarked made (get_or nexts i 0)) → HasMarked (take (i + 1) nexts) marks made nodes all
marked_before nexts marks made nodes all i h within is = record {
  same = h.same;
  marked = λ node. grind (arith, h.same, h.marked node, contains_next nexts i 0 node within, ap (IsMarked made));
  more = h.more;
  fresh = h.fresh;
  once = h.once;
  count = h.count;
}

-- only nodes have a mark
pub marked_inside : (marks : List Bool) (node : ℕ) → IsMarked marks node → node < length marks
marked_inside marks node is = grind (arith, common_steps)

-- what has the mark with one node more
pub one_marked : (marks : List Bool) (i node : ℕ) → i < length marks → IsMarked (set marks i true) node ↔ (IsMarked marks node ⊎ (i ≡ node))
one_marked marks i node within = grind (arith, stands_at marks i true false within node)

-- what was reached then: what was before, and what has got the mark
one_fresh : {Before Nodes Was Now Is More All : Type 0} → All ↔ (Nodes ⊎ More) → Nodes ↔ (Before ⊎ (Was × (Is → ⊥))) → Now ↔ (Was ⊎ More) → (More → Is → ⊥) → All ↔ (Before ⊎ (Now × (Is → ⊥)))
one_fresh all nodes now fresh = grind arith

-- the next node gets the mark, and stands at the end
pub marked_now : (nexts : List ℕ) (marks made : List Bool) (nodes all : List ℕ) (i : ℕ) (mark : Bool) → HasMarked (take i nexts) marks made nodes all → i < length nexts
    → get_or nexts i 0 < length made → mark ≡ get_or made (get_or nexts i 0) mark → mark ≡ false
    → HasMarked (take (i + 1) nexts) marks (set made (get_or nexts i 0) true) nodes (all ++ get_or nexts i 0 ∷ [])
marked_now nexts marks made nodes all i mark h within inside is unmarked =
    let k = get_or nexts i 0 in
    let no_mark : get_or made k false ≡ false = sym (get_or_read made k mark inside is false) ∙ unmarked in
    let not_yet : IsMarked made k → ⊥ = λ is. false≢true (sym no_mark ∙ is) in
    let new : (node : ℕ) → k ≡ node → IsMarked marks node → ⊥ = λ node e was. not_yet ((h.marked k).1 (inl (subst (IsMarked marks) (sym e) was))) in
    record {
      same = simp length-set h.same;
      marked = λ node. grind (arith, h.same, h.marked node, one_marked made k node inside, contains_next nexts i 0 node within);
      more = (h.more.0 ++ k ∷ [], ap (λ xs. xs ++ k ∷ []) h.more.1 ∙ append_assoc nodes h.more.0 (k ∷ []));
      fresh = λ node. one_fresh (contains_with all k node) (h.fresh node) (one_marked made k node inside) (new node);
      once = λ once are. once_with all k (h.once once are)
          (λ c. ⊎_elim (λ n. not_yet ((h.marked k).1 (inl (are k n)))) (λ m. not_yet m.0) ((h.fresh k).0 c));
      count = grind (arith, common_steps, h.count, sum_by-set (λ b. cond (not b) 1 0) made k true false inside);
    }

-- what has the mark with one mark less
pub one_cleared : (marks : List Bool) (i node : ℕ) → i < length marks → IsMarked (set marks i false) node ↔ (IsMarked marks node × (i ≢ node))
one_cleared marks i node within = grind (arith, stands_at marks i false false within node)

-- the arrows of the first nodes were turned round
pub record TurnedSoFar (arrows made : List (List ℕ)) (count : ℕ) : Type 0 where
  pub same : length made ≡ length arrows
  pub turned : (other node : ℕ) → Contains (get_or made other []) node ↔ ((node < count) × HasArrow arrows node other)

-- those of one node more
pub turned_more : (arrows made after : List (List ℕ)) (i : ℕ) (nexts : List ℕ) → TurnedSoFar arrows made i → i < length arrows → nexts ≡ get_or arrows i nexts → HasAdded nexts i made after
    → TurnedSoFar arrows after (i + 1)
turned_more arrows made after i nexts h within is a = record {
  same = a.same ∙ h.same;
  turned = λ other node.
      let now : nexts ≡ get_or arrows i [] = get_or_read arrows i nexts within is [] in
      grind (arith, a.added other node, h.turned other node, ap (λ n. HasArrow arrows n other));
}

-- a node that has an arrow is a node of the graph
arrow_within : (arrows : List (List ℕ)) (node next : ℕ) → HasArrow arrows node next → node < length arrows
arrow_within arrows node next h = grind (arith, common_steps)

-- at the end those of all
pub all_turned : (arrows made : List (List ℕ)) (count : ℕ) → TurnedSoFar arrows made count → length arrows ≤ count → (node next : ℕ) → HasArrow made next node ↔ HasArrow arrows node next
all_turned arrows made count h end node next = (
  λ a. ((h.turned next node).0 a.among).1,
  λ a. record { among = (h.turned next node).1 (omega (arith, arrow_within arrows node next a), a); within = omega (arith, h.same, arrow_within arrows node next a) },
)
