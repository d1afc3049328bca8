-- An arrow to a node that was seen is followed.
use Rattle.std.proofs.Common.{refl, ◌≡◌, ◌<◌, ◌≤◌, ◌-◌, ℕ, Bool, true, List, [], ◌∷◌, ◌++◌, length, get_or, set, take, inl, inr, ⊎_elim, sym, subst, ap, ◌∙◌, arith}
use Rattle.std.proofs.Math.ListN.{length-set}
use Rattle.std.proofs.lemmas.Bool.{cases_order}
use Rattle.std.proofs.lemmas.List.Elements.{Contains-append_left, Contains-push}
use Rattle.std.specs.List.{Contains}
use Rattle.odd_graph.specs.Graph.{HasArrow, Leads}
use Rattle.odd_graph.specs.Marking.{IsMarked}
use Rattle.odd_graph.proofs.Chains.{chained_on}
use Rattle.odd_graph.proofs.OneMore.{contains_with, marked_inside, one_marked}
use Rattle.odd_graph.specs.Walking.{AreLedTo, IsDone, IsJoined, Keeps, StandsAt, no_node}
use Rattle.odd_graph.specs.declared.walk.Part.{Part}
use Rattle.odd_graph.proofs.Taking.{ended, followed_by}
use Rattle.odd_graph.proofs.Parts.{order_front}

module _ {arrows : List (List ℕ)} {seen : List Bool} {places stack : List ℕ} {parts : List Part} {work : List ℕ} {marks : List Bool} {hand : ℕ → Type 0}
    (k : Keeps arrows seen places stack parts work marks hand) where
  -- more nodes have the mark
  more_marked : (made : List Bool) → length made ≡ length marks → ((node : ℕ) → IsMarked marks node → IsMarked made node) → ((node : ℕ) → IsMarked made node → Leads arrows node node)
      → Keeps arrows seen places stack parts work made hand
  more_marked made same more sound = record {
    all_seen = k.all_seen;
    all_places = k.all_places;
    all_marks = same ∙ k.all_marks;
    placed = k.placed;
    led = k.led;
    joined = λ place l.
        ⊎_elim inl
        (λ j. inr (record { before = j.before; next = j.next; back = j.back; marked = more (get_or stack place 0) j.marked; marked_before = more (get_or stack j.before 0) j.marked_before }))
        (k.joined place l);
    order = k.order;
    within = k.within;
    targets = k.targets;
    followed = λ place next l a.
        ⊎_elim (λ h. inl h)
        (λ r. ⊎_elim (λ d. inr (inl d))
        (λ q. ⊎_elim (λ j. inr (inr (inl (record { at = j.at; stands = j.stands; later = j.later; marked = λ e. more next (j.marked e) })))) (λ w. inr (inr (inr w))) q) r)
        (k.followed place next l a);
    closed = k.closed;
    sound = sound;
    found = λ node d l. more node (k.found node d l);
  }

  -- one node more that leads to itself
  pub marked_one : (node : ℕ) → node < length marks → Leads arrows node node → Keeps arrows seen places stack parts work (set marks node true) hand
  marked_one node inside l =
      more_marked (set marks node true) (length-set marks node true) (λ other is. (one_marked marks node other inside).1 (inl is))
      (λ other is. ⊎_elim (λ was. k.sound other was) (λ e. subst (λ n. Leads arrows n n) e l) ((one_marked marks node other inside).0 is))

  -- an open node is a node of the graph
  pub open_within : (place : ℕ) → place < length stack → get_or stack place 0 < length seen
  open_within place l = let is = (k.placed place l).0 in marked_inside seen (get_or stack place 0) is

module _ {arrows : List (List ℕ)} {seen : List Bool} {places stack : List ℕ} (front : List Part) (top : Part) {work : List ℕ} {marks : List Bool} {hand : ℕ → Type 0}
    (k : Keeps arrows seen places stack (front ++ top ∷ []) work marks hand) where
  -- the last part is one with that before it
  dropped : IsJoined arrows marks stack top.start → Keeps arrows seen places stack front work marks hand
  dropped is = record {
    all_seen = k.all_seen;
    all_places = k.all_places;
    all_marks = k.all_marks;
    placed = k.placed;
    led = k.led;
    joined = λ place l.
        ⊎_elim
        (λ s. ⊎_elim (λ c. inl (s.0, c, s.2)) (λ e. inr (subst (IsJoined arrows marks stack) (ap (λ (p : Part). p.start) e ∙ s.2) is)) ((contains_with front top s.0).0 s.1))
        (λ j. inr j) (k.joined place l);
    order = order_front front top k.order;
    within = λ part c. k.within part (Contains-append_left front (top ∷ []) part c);
    targets = λ at l.
        let t = k.targets at l in
        (t.0, record { within = t.1.within; among = t.1.among; owed = λ part c. t.1.owed part (Contains-append_left front (top ∷ []) part c) });
    followed = λ place next l a.
        ⊎_elim (λ h. inl h)
        (λ r. ⊎_elim (λ d. inr (inl d))
        (λ q. ⊎_elim
        (λ j. inr (inr (inl (record { at = j.at; stands = j.stands; later = λ part c. j.later part (Contains-append_left front (top ∷ []) part c); marked = j.marked }))))
        (λ w. inr (inr (inr (record { at = w.at; stands = w.stands; owed = λ part c. w.owed part (Contains-append_left front (top ∷ []) part c) })))) q) r)
        (k.followed place next l a);
    closed = k.closed;
    sound = k.sound;
    found = k.found;
  }

module _ {arrows : List (List ℕ)} {seen : List Bool} {places stack : List ℕ} (front : List Part) (top : Part) {work : List ℕ} {marks : List Bool} {hand : ℕ → Type 0}
    (k : Keeps arrows seen places stack (front ++ top ∷ []) work marks hand) (first before node place : ℕ) (led : AreLedTo arrows stack node) (at : StandsAt stack place node) (less : place < top.start)
    (is : get_or stack top.start 0 ≡ first) (was : get_or stack (top.start - 1) 0 ≡ before) where
  -- the last part starts at an open node
  bound : top.start < length stack
  bound = (k.within top (Contains-push front top)).0

  -- the node where the part starts leads to that before it
  back : Leads arrows first before
  back =
      let step : Leads arrows first node = subst (λ n. Leads arrows n node) is (led top.start bound) in
      ⊎_elim (λ e. subst (Leads arrows first) (sym at.1 ∙ ap (λ p. get_or stack p 0) e ∙ was) step)
      (λ r. ⊎_elim
      (λ l. chained_on (HasArrow arrows) first node before step
      (subst (λ n. Leads arrows n before) at.1 (subst (λ n. Leads arrows (get_or stack place 0) n) was (k.led place (top.start - 1) l (omega (arith, bound))))))
      (λ g. absurd (omega (arith, g, less))) r) (cases_order place (top.start - 1))

  -- and that to it
  forth : Leads arrows before first
  forth = subst (λ n. Leads arrows before n) is (subst (λ n. Leads arrows n (get_or stack top.start 0)) was (k.led (top.start - 1) top.start (omega (arith, less)) bound))

  -- the part is one with that before it
  united : Keeps arrows seen places stack front work (set (set marks first true) before true) hand
  united =
      let same : length seen ≡ length marks = k.all_seen ∙ sym k.all_marks in
      let inside : first < length marks = omega (arith, open_within k top.start bound, same, is) in
      let inside_before : before < length (set marks first true) =
      omega (arith, open_within k (top.start - 1) (omega (arith, bound)), same, was, length-set marks first true) in
      let one = marked_one k first inside (chained_on (HasArrow arrows) first before first back forth) in
      let two = marked_one one before inside_before (chained_on (HasArrow arrows) before first before forth back) in
      dropped front top two (record {
        before = top.start - 1;
        next = omega (arith, less);
        back = rw (is, was) back;
        marked = rw is ((one_marked (set marks first true) before first inside_before).1 (inl ((one_marked marks first first inside).1 (inr refl))));
        marked_before = rw was ((one_marked (set marks first true) before before inside_before).1 (inr refl));
      })

-- at the end of the list
pub united_last : {arrows : List (List ℕ)} {seen : List Bool} {places stack : List ℕ} {parts : List Part} {work : List ℕ} {marks : List Bool} {hand : ℕ → Type 0} {n : ℕ} {left : List Part} (top : Part)
    (first before node place : ℕ) → Keeps arrows seen places stack parts work marks hand → n ≡ length parts → 0 < length parts → top ≡ get_or parts (length parts - 1) top
    → AreLedTo arrows stack node → StandsAt stack place node → place < top.start → get_or stack top.start 0 ≡ first → get_or stack (top.start - 1) 0 ≡ before → left ≡ take (n - 1) parts
    → Keeps arrows seen places stack left work (set (set marks first true) before true) hand
united_last {arrows} {seen} {places} {stack} {parts} {work} {marks} {hand} top first before node place k many some is led at less f b l =
    let e : parts ≡ take (length parts - 1) parts ++ top ∷ [] = ended parts top some is in
    rw (l, many) (united (take (length parts - 1) parts) top (subst (λ ps. Keeps arrows seen places stack ps work marks hand) e k) first before node place led at less f b)

module _ {arrows : List (List ℕ)} {seen : List Bool} {places stack : List ℕ} {parts : List Part} {work : List ℕ} {marks : List Bool} {target : ℕ}
    (k : Keeps arrows seen places stack parts work marks (λ other. target ≡ other)) where
  -- it stands in the last part
  pub settled : (place : ℕ) → StandsAt stack place target → ((part : Part) → Contains parts part → part.start ≤ place) → IsMarked marks target
      → Keeps arrows seen places stack parts work marks no_node
  settled place at most marked =
      followed_by no_node k
      (λ from next l e a. inr (inr (inl (record { at = place; stands = (at.0, at.1 ∙ e); later = λ part c s. most part c; marked = λ same. subst (IsMarked marks) e marked }))))

  -- or is done, or no node
  pub skipped : (target < length arrows → IsDone seen stack target) → Keeps arrows seen places stack parts work marks no_node
  skipped done = followed_by no_node k (λ from next l e a. inr (inl (subst (IsDone seen stack) e (done (omega (arith, a.within, e))))))
