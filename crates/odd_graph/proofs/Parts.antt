-- Parts of the nodes that are open, and what leads where.
use Rattle.std.proofs.Common.{refl, ◌≡◌, ◌⊎◌, ◌<◌, ◌≤◌, ◌+◌, ◌-◌, ℕ, zero, suc, Bool, List, [], ◌∷◌, ◌++◌, length, get_or, inl, inr, ⊎_elim, sym, subst, ap, ◌∙◌, arith}
use Rattle.std.proofs.lemmas.Bool.{cases_eq, cases_lt, cases_order}
use Rattle.std.proofs.lemmas.List.{append_assoc}
use Rattle.std.specs.List.{Contains}
use Rattle.odd_graph.proofs.Chains.{chained_on}
use Rattle.odd_graph.proofs.OneMore.{contains_with, place_with}
use Rattle.odd_graph.specs.Graph.{HasArrow, Leads, at_once, through}
use Rattle.odd_graph.specs.Walking.{AreInOrder, AreLedTo, IsDone, IsOpen, Keeps}
use Rattle.odd_graph.specs.declared.walk.Part.{Part}

-- the last part starts at the latest place
pub top_most : (front : List Part) (top part : Part) → AreInOrder (front ++ top ∷ []) → Contains (front ++ top ∷ []) part → part.start ≤ top.start
top_most front top part order c =
    ⊎_elim (λ d. omega (arith, order front [] top part refl d)) (λ e. let same = ap (λ (p : Part). p.start) e in omega (arith, same)) ((contains_with front top part).0 c)

-- the others are in order without it
pub order_front : (front : List Part) (top : Part) → AreInOrder (front ++ top ∷ []) → AreInOrder front
order_front front top order before after part other e c =
    order before (after ++ top ∷ []) part other (ap (λ parts. parts ++ top ∷ []) e ∙ append_assoc before (part ∷ after) (top ∷ [])) c

-- and with one that starts later
pub order_with : (parts : List Part) (new : Part) → AreInOrder parts → ((part : Part) → Contains parts part → part.start < new.start) → AreInOrder (parts ++ new ∷ [])
order_with parts new order less before after part other e c =
    ⊎_elim (λ at. subst (λ (p : Part). other.start < p.start) at.1 (less other (subst (λ ps. Contains ps other) (sym at.0) c))) (λ at. order before at.0 part other at.1 c)
    (place_with parts before after new part e)

module _ {arrows : List (List ℕ)} {seen : List Bool} {places stack : List ℕ} {parts : List Part} {work : List ℕ} {marks : List Bool} {hand : ℕ → Type 0}
    (k : Keeps arrows seen places stack parts work marks hand) where
  -- in the last part what stands later leads to what stands before it
  down : (count place later : ℕ) → ((part : Part) → Contains parts part → part.start ≤ place) → later ≡ place + suc count → later < length stack
      → Leads arrows (get_or stack later 0) (get_or stack place 0)
  down zero place later most is within =
      ⊎_elim (λ s. absurd (omega (arith, most s.0 s.1, s.2, is)))
      (λ j. subst (λ n. Leads arrows (get_or stack later 0) (get_or stack n 0)) (omega (arith, is, j.next)) j.back) (k.joined later within)
  down (suc count) place later most is within =
      ⊎_elim (λ s. absurd (omega (arith, most s.0 s.1, s.2, is)))
      (λ j. chained_on (HasArrow arrows) (get_or stack later 0) (get_or stack j.before 0) (get_or stack place 0) j.back (down count place j.before most (omega (arith, is, j.next)) (omega (arith, j.next, within))))
      (k.joined later within)

  -- each open node is at a place of the last part, or leads there
  both : (place other : ℕ) → ((part : Part) → Contains parts part → part.start ≤ place) → place < length stack → other < length stack
      → (other ≡ place) ⊎ Leads arrows (get_or stack other 0) (get_or stack place 0)
  both place other most within inside =
      ⊎_elim inl (λ r. inr (⊎_elim (λ l. k.led other place l within) (λ g. down (other - place - 1) place other most (omega (arith, g)) inside) r)) (cases_order other place)

  -- so they all lead where an arrow of it leads
  pub on_to : (place next : ℕ) → ((part : Part) → Contains parts part → part.start ≤ place) → place < length stack → HasArrow arrows (get_or stack place 0) next → AreLedTo arrows stack next
  on_to place next most within a other inside =
      ⊎_elim (λ e. subst (λ n. Leads arrows (get_or stack n 0) next) (sym e) (at_once a))
      (λ l. chained_on (HasArrow arrows) (get_or stack other 0) (get_or stack place 0) next l (at_once a))
      (both place other most within inside)

  -- a node is open at one place
  pub one_place : (place other : ℕ) → place < length stack → other < length stack → get_or stack place 0 ≡ get_or stack other 0 → place ≡ other
  one_place place other within inside e = sym (k.placed place within).1 ∙ ap (λ n. get_or places n 0) e ∙ (k.placed other inside).1

  -- where it is open
  pub placed_at : (node : ℕ) (o : IsOpen stack node) → get_or places node 0 ≡ o.0
  placed_at node o = ap (λ n. get_or places n 0) (sym o.1.1) ∙ (k.placed o.0 o.1.0).1

  -- a node is open or not
  pub open_or_not : (node : ℕ) → IsOpen stack node ⊎ (IsOpen stack node → ⊥)
  open_or_not node =
      ⊎_elim
      (λ l. ⊎_elim (λ e. inl (get_or places node 0, (l, e))) (λ n. inr (λ o. n (ap (λ p. get_or stack p 0) (placed_at node o) ∙ o.1.1))) (cases_eq (get_or stack (get_or places node 0) 0) node))
      (λ m. inr (λ o. absurd (omega (arith, m, placed_at node o, o.1.0))))
      (cases_lt (get_or places node 0) (length stack))

  -- what a node that is done leads to is done
  pub closed_on : (node other : ℕ) → IsDone seen stack node → Leads arrows node other → IsDone seen stack other
  closed_on node other d (at_once a) = k.closed node other d a
  closed_on node other d (through between a l) = closed_on between other (k.closed node between d a) l
