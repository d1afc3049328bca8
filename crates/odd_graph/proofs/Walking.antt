-- What the functions of the walk ask for and keep, in the words of their contracts.
use Rattle.std.proofs.Common.{refl, ◌≡◌, ◌⊎◌, ◌<◌, ◌≤◌, ◌-◌, ℕ, Bool, true, List, [], ◌∷◌, ◌++◌, length, get_or, set, take, inl, inr, ⊎_elim, sym, subst, ap, ◌∙◌, arith}
use Rattle.std.proofs.Math.ListN.{length-set}
use Rattle.std.proofs.lemmas.List.{get_or_read, nil_from_length}
use Rattle.std.specs.List.{Contains}
use Rattle.odd_graph.proofs.Joining.{marked_one, open_within, settled, skipped}
use Rattle.odd_graph.proofs.OneMore.{one_marked}
use Rattle.odd_graph.proofs.Parts.{placed_at, top_most}
use Rattle.odd_graph.proofs.Taking.{ended, followed_by, none_open}
use Rattle.odd_graph.specs.Graph.{Leads}
use Rattle.odd_graph.specs.Marking.{IsMarked}
use Rattle.odd_graph.specs.Walking.{AreInOrder, AreLedTo, Awaits, Keeps, KeepsAll, StandsAt, no_node}
use Rattle.odd_graph.specs.declared.walk.Part.{Part}
use Rattle.odd_graph.specs.declared.walk.Walk.{Walk}

-- the first node of a walk, where none is open
pub awaits_first : (w : Walk) (node : ℕ) → KeepsAll w no_node → w.stack.items ≡ [] → node < length w.arrows.now → (IsMarked w.seen.items node → ⊥) → Awaits w node
awaits_first w node k none within new = record {
  keeps = followed_by (λ other. node ≡ other) k (λ place next l h a. absurd h);
  led = λ place l. absurd (omega (arith, l, ap length none));
  within = within;
  new = new;
}

-- a target that is new
pub awaits_new : (w : Walk) (node : ℕ) → KeepsAll w (λ other. node ≡ other) → (node < length w.arrows.now → AreLedTo w.arrows.now w.stack.items node)
    → (node < length w.seen.items) × (IsMarked w.seen.items node → ⊥) → Awaits w node
awaits_new w node k led new =
    let within : node < length w.arrows.now = omega (arith, new.0, k.all_seen) in
    record { keeps = k; led = led within; within = within; new = new.1 }

module _ {arrows : List (List ℕ)} {seen : List Bool} {places stack : List ℕ} {parts : List Part} {work : List ℕ} {marks : List Bool} where
  -- where no part is left none is open
  pub all_closed : Keeps arrows seen places stack parts work marks no_node → length parts ≤ 0 → stack ≡ []
  all_closed k none = nil_from_length stack (none_open k (omega (arith, none)))

  -- an open node has a mark, set or not
  marks_within : {hand : ℕ → Type 0} (place : ℕ) → Keeps arrows seen places stack parts work marks hand → place < length stack → get_or stack place 0 < length marks
  marks_within place k l =
      omega (arith, open_within k place l, k.all_seen, k.all_marks)

  module _ (target place : ℕ) (k : Keeps arrows seen places stack parts work marks (λ other. target ≡ other)) where
    -- a target that does not stand where it would is followed
    pub not_standing : target < length places → place ≡ get_or places target place → (StandsAt stack place target → ⊥) → IsMarked seen target ⊎ (length seen ≤ target)
        → Keeps arrows seen places stack parts work marks no_node
    not_standing inside is apart either =
        let here : place ≡ get_or places target 0 = get_or_read places target place inside is 0 in
        skipped k (λ l. (
          ⊎_elim (λ m. m) (λ g. absurd (omega (arith, g, l, k.all_seen))) either,
          λ o.
              let at : place ≡ o.0 = here ∙ placed_at k target o in
              apart (subst (λ p. StandsAt stack p target) (sym at) o.1),
        ))

    -- so is one where the last part starts before the place
    pub settled_last : (top : Part) → 0 < length parts → top ≡ get_or parts (length parts - 1) top → StandsAt stack place target → top.start ≤ place → IsMarked marks target
        → Keeps arrows seen places stack parts work marks no_node
    settled_last top some is at few marked =
        let e : parts ≡ take (length parts - 1) parts ++ top ∷ [] = ended parts top some is in
        settled k place at
        (λ part c.
        omega (arith, top_most (take (length parts - 1) parts) top part (subst AreInOrder e k.order) (subst (λ ps. Contains ps part) e c), few)) marked

    -- or where there is none
    pub settled_none : length parts ≤ 0 → StandsAt stack place target → IsMarked marks target → Keeps arrows seen places stack parts work marks no_node
    settled_none none at marked = settled k place at (λ part c. absurd (omega (arith, c.1, none))) marked

    -- an open target to which all open nodes lead has the mark
    pub first_marked : AreLedTo arrows stack target → StandsAt stack place target
        → (target < length marks) × Keeps arrows seen places stack parts work (set marks target true) (λ other. target ≡ other) × IsMarked (set marks target true) target
    first_marked led at =
        let inside : target < length marks = subst (λ n. n < length marks) at.1 (marks_within place k at.0) in (
          inside,
          marked_one k target inside (subst (λ n. Leads arrows n target) at.1 (led place at.0)),
          (one_marked marks target target inside).1 (inr refl),
        )

  module _ {hand : ℕ → Type 0} (top : Part) (k : Keeps arrows seen places stack parts work marks hand) (some : 0 < length parts) (is : top ≡ get_or parts (length parts - 1) top) where
    -- the last part starts at an open node
    pub last_within : top.start < length stack
    last_within = (k.within top (length parts - 1, omega (arith, some), sym is)).0

    -- which has a mark, set or not
    pub first_inside : (first : ℕ) → first ≡ get_or stack top.start first → first < length marks
    first_inside first read =
        let here : first ≡ get_or stack top.start 0 = get_or_read stack top.start first last_within read 0 in
        omega (arith, here, marks_within top.start k last_within)

    -- and so has that before it
    pub before_inside : (before : ℕ) → before ≡ get_or stack (top.start - 1) before → before < length marks
    before_inside before read =
        let lb : top.start - 1 < length stack = omega (arith, last_within) in
        let here : before ≡ get_or stack (top.start - 1) 0 = get_or_read stack (top.start - 1) before lb read 0 in
        omega (arith, here, marks_within (top.start - 1) k lb)

-- two marks more
pub marked_still : (marks : List Bool) (first before node : ℕ) → first < length marks → before < length marks → IsMarked marks node → IsMarked (set (set marks first true) before true) node
marked_still marks first before node inside within is =
    (one_marked (set marks first true) before node (omega (arith, within, length-set marks first true))).1 (inl ((one_marked marks first node inside).1 (inl is)))
