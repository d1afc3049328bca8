-- The last part is closed, once no target that is owed to it waits.
use Rattle.std.proofs.Common.{Option, None, Some, refl, ◌≡◌, ◌⊎◌, ◌<◌, ◌≤◌, ◌+◌, ◌-◌, ℕ, Bool, List, [], ◌∷◌, ◌++◌, length, get_or, take, inl, inr, ⊎_elim, sym, subst, ap, ◌∙◌, arith}
use Rattle.std.proofs.lemmas.Bool.{cases_lt}
use Rattle.std.proofs.lemmas.List.{get_or-take, length-take-le}
use Rattle.std.proofs.lemmas.List.Elements.{Contains-append_left, Contains-push}
use Rattle.std.specs.List.{Contains}
use Rattle.std.specs.Option.{IfSome, option_to_list}
use Rattle.odd_graph.specs.Graph.{HasArrow, Leads}
use Rattle.odd_graph.specs.Marking.{IsMarked}
use Rattle.odd_graph.proofs.Chains.{first_and_rest}
use Rattle.odd_graph.proofs.OneMore.{contains_with}
use Rattle.odd_graph.specs.Walking.{AreLedTo, IsDone, IsOpen, Keeps, StandsAt, no_node}
use Rattle.odd_graph.specs.declared.walk.Part.{Part}
use Rattle.odd_graph.proofs.Taking.{ended, taken, taken_led}
use Rattle.odd_graph.proofs.Parts.{closed_on, one_place, open_or_not, order_front, top_most}

module _ {arrows : List (List ℕ)} {seen : List Bool} {places stack : List ℕ} (front : List Part) (top : Part) {work : List ℕ} {marks : List Bool}
    (k : Keeps arrows seen places stack (front ++ top ∷ []) work marks no_node) (end : length work ≤ top.work) where
  -- it is one of the parts
  in_top : Contains (front ++ top ∷ []) top
  in_top = Contains-push front top

  -- and so are those before it
  in_front : (part : Part) → Contains front part → Contains (front ++ top ∷ []) part
  in_front part c = Contains-append_left front (top ∷ []) part c

  -- which start before it
  less : (part : Part) → Contains front part → part.start < top.start
  less part c = k.order front [] top part refl c

  -- it starts at an open node
  bound : top.start < length stack
  bound = (k.within top in_top).0

  -- as many nodes are left open as stand before it
  cut_length : length (take top.start stack) ≡ top.start
  cut_length = length-take-le top.start stack (omega (arith, bound))

  -- and each stands where it stood
  still : (place : ℕ) → place < top.start → get_or (take top.start stack) place 0 ≡ get_or stack place 0
  still place l = get_or-take top.start stack place 0 l

  -- what is still open was open
  open_before : (node : ℕ) → IsOpen (take top.start stack) node → IsOpen stack node
  open_before node o =
      (o.0, (omega (arith, o.1.0, cut_length, bound), sym (still o.0 (omega (arith, o.1.0, cut_length))) ∙ o.1.1))

  -- what was done is
  done_still : (node : ℕ) → IsDone seen stack node → IsDone seen (take top.start stack) node
  done_still node d = (d.0, λ o. d.1 (open_before node o))

  -- and so are the nodes of the part
  done_now : (place : ℕ) → top.start ≤ place → place < length stack → IsDone seen (take top.start stack) (get_or stack place 0)
  unfolding open_before
  done_now place from within = (
    (k.placed place within).0,
    λ o.
        let was = open_before (get_or stack place 0) o in
        let same : was.0 ≡ place = one_place k was.0 place was.1.0 within was.1.1 in
        let inside : o.0 < length (take top.start stack) = o.1.0 in
        let here : o.0 ≡ place = same in
        absurd (omega (arith, cut_length, inside, here, from)),
  )

  -- what is done was, or stood in the part
  done_was : (node : ℕ) → IsDone seen (take top.start stack) node → IsDone seen stack node ⊎ ((place : ℕ) × (top.start ≤ place) × StandsAt stack place node)
  done_was node d =
      ⊎_elim
      (λ o. ⊎_elim (λ l. absurd (d.1 (o.0, (omega (arith, l, cut_length), still o.0 l ∙ o.1.1)))) (λ g. inr (o.0, g, o.1)) (cases_lt o.0 top.start))
      (λ n. inl (d.0, n)) (open_or_not k node)

  -- what its nodes have an arrow to is done
  next_done : (place next : ℕ) → top.start ≤ place → place < length stack → HasArrow arrows (get_or stack place 0) next → IsDone seen (take top.start stack) next
  next_done place next from within a =
      ⊎_elim (λ h. absurd h)
      (λ r. ⊎_elim (λ d. done_still next d)
      (λ q. ⊎_elim (λ l. subst (IsDone seen (take top.start stack)) l.stands.1 (done_now l.at (l.later top in_top from) l.stands.0))
      (λ w. absurd (omega (arith, (w.owed top in_top).0 from, w.stands.0, end))) q) r) (k.followed place next within a)

  -- where the part is one node, the node leads to itself only by an arrow
  alone : (place : ℕ) → place ≡ top.start → length stack ≤ top.start + 1 → place < length stack → Leads arrows (get_or stack place 0) (get_or stack place 0) → IsMarked marks (get_or stack place 0)
  alone place is one within l =
      let f = first_and_rest (HasArrow arrows) (get_or stack place 0) (get_or stack place 0) l in
      ⊎_elim (λ h. absurd h)
      (λ r. ⊎_elim
      (λ d.
      let again : IsDone seen stack (get_or stack place 0) =
      ⊎_elim (λ e. subst (IsDone seen stack) e d) (λ c. closed_on k f.0 (get_or stack place 0) d c) f.2 in
      absurd (again.1 (place, (within, refl))))
      (λ q. ⊎_elim
      (λ j.
      let same : place ≡ j.at = omega (arith, j.later top in_top (omega (arith, is)), j.stands.0, is, one) in
      subst (IsMarked marks) (sym j.stands.1 ∙ ap (λ p. get_or stack p 0) (sym same)) (j.marked same))
      (λ w. absurd (omega (arith, (w.owed top in_top).0 (omega (arith, is)), w.stands.0, end))) q) r)
      (k.followed place f.0 within f.1)

  -- each node of the part that leads to itself has the mark
  marked_top : (place : ℕ) → top.start ≤ place → place < length stack → Leads arrows (get_or stack place 0) (get_or stack place 0) → IsMarked marks (get_or stack place 0)
  marked_top place from within l =
      ⊎_elim
      (λ s.
      let is : place ≡ top.start = omega (arith, top_most front top s.0 k.order s.1, s.2, from) in
      ⊎_elim
      (λ more. ⊎_elim (λ t. absurd (omega (arith, top_most front top t.0 k.order t.1, t.2)))
      (λ j. let same : j.before ≡ place = omega (arith, j.next, is) in subst (λ n. IsMarked marks (get_or stack n 0)) same j.marked_before) (k.joined (top.start + 1) more))
      (λ one. alone place is one within l) (cases_lt (top.start + 1) (length stack)))
      (λ j. j.marked) (k.joined place within)

  -- what is kept then
  closed_part : Keeps arrows seen places (take top.start stack) front work marks no_node
  closed_part =
      record {
        all_seen = k.all_seen;
        all_places = k.all_places;
        all_marks = k.all_marks;
        placed = λ place l. let lt : place < top.start = omega (arith, cut_length, l) in rw (still place lt) (k.placed place (omega (arith, lt, bound)));
        led = λ place later e l.
            let lt : later < top.start = omega (arith, cut_length, l) in
            let lq : place < top.start = omega (arith, lt, e) in
            rw (still place lq, still later lt) (k.led place later e (omega (arith, lt, bound)));
        joined = λ place l.
            let lt : place < top.start = omega (arith, cut_length, l) in
            ⊎_elim
            (λ s. inl (⊎_elim (λ c. (s.0, c, s.2)) (λ e. let same = ap (λ (p : Part). p.start) e in absurd (omega (arith, same, s.2, lt))) ((contains_with front top s.0).0 s.1)))
            (λ j. let next = j.next in
            let lb : j.before < top.start = omega (arith, next, lt) in
            inr (record {
              before = j.before;
              next = j.next;
              back = rw (still place lt, still j.before lb) j.back;
              marked = rw (still place lt) j.marked;
              marked_before = rw (still j.before lb) j.marked_before;
            })) (k.joined place (omega (arith, lt, bound)));
        order = order_front front top k.order;
        within = λ part c. (omega (arith, cut_length, less part c), (k.within part (in_front part c)).1);
        targets = λ at l.
            let t = k.targets at l in
            let lt : t.0 < top.start =
            ⊎_elim (λ y. y) (λ n. absurd (omega (arith, (t.1.owed top in_top).0 n, l, end))) (cases_lt t.0 top.start) in
            (t.0, record { within = omega (arith, cut_length, lt); among = rw (still t.0 lt) t.1.among; owed = λ part c. t.1.owed part (in_front part c) });
        followed = λ place next l a.
            let lt : place < top.start = omega (arith, cut_length, l) in
            ⊎_elim (λ h. absurd h)
            (λ r. ⊎_elim (λ d. inr (inl (done_still next d)))
            (λ q. ⊎_elim
            (λ j. ⊎_elim
            (λ in_cut. inr (inr (inl (record {
              at = j.at;
              stands = (omega (arith, cut_length, in_cut), still j.at in_cut ∙ j.stands.1);
              later = λ part c. j.later part (in_front part c);
              marked = j.marked;
            }))))
            (λ from. inr (inl (subst (IsDone seen (take top.start stack)) j.stands.1 (done_now j.at from j.stands.0)))) (cases_lt j.at top.start))
            (λ w. inr (inr (inr (record { at = w.at; stands = w.stands; owed = λ part c. w.owed part (in_front part c) })))) q) r)
            (k.followed place next (omega (arith, lt, bound)) (subst (λ n. HasArrow arrows n next) (still place lt) a));
        closed = λ node next d a.
            ⊎_elim (λ was. done_still next (k.closed node next was a)) (λ p. next_done p.0 next p.1 p.2.0 (subst (λ n. HasArrow arrows n next) (sym p.2.1) a)) (done_was node d);
        sound = k.sound;
        found = λ node d l.
            ⊎_elim (λ was. k.found node was l) (λ p. subst (IsMarked marks) p.2.1 (marked_top p.0 p.1 p.2.0 (subst (λ n. Leads arrows n n) (sym p.2.1) l))) (done_was node d);
      }

module _ {arrows : List (List ℕ)} {seen : List Bool} {places stack : List ℕ} {parts : List Part} {work : List ℕ} {marks : List Bool} (k : Keeps arrows seen places stack parts work marks no_node)
    (top : Part) (some : 0 < length parts) (is : top ≡ get_or parts (length parts - 1) top) where
  -- the parts before the last one
  abbrev front : List Part
  front = take (length parts - 1) parts

  -- what is kept, where the parts are those and the last one
  split : Keeps arrows seen places stack (front ++ top ∷ []) work marks no_node
  split = subst (λ ps. Keeps arrows seen places stack ps work marks no_node) (ended parts top some is) k

  -- the last part is closed
  pub closed_last : {n : ℕ} {cut : List ℕ} {left : List Part} → n ≡ length parts → length work ≤ top.work → cut ≡ take top.start stack → left ≡ take (n - 1) parts
      → Keeps arrows seen places cut left work marks no_node
  closed_last many end c l = rw (c, l, many) (closed_part front top split end)

  -- and where a target is owed to it, that is taken
  pub taken_last : (rest : List ℕ) (last : Option ℕ) → top.work < length work → work ≡ rest ++ option_to_list last
      → IfSome last (λ target. Keeps arrows seen places stack parts rest marks (λ other. target ≡ other) × (target < length arrows → AreLedTo arrows stack target))
  taken_last rest None more w = tt
  taken_last rest (Some target) more w =
      let all : Keeps arrows seen places stack (front ++ top ∷ []) (rest ++ target ∷ []) marks no_node = subst (λ ws. Keeps arrows seen places stack (front ++ top ∷ []) ws marks no_node) w split in
      let many : top.work < length (rest ++ target ∷ []) = subst (λ ws. top.work < length ws) w more in (
        subst (λ ps. Keeps arrows seen places stack ps rest marks (λ other. target ≡ other)) (sym (ended parts top some is)) (taken front top rest target all many),
        taken_led front top rest target all many,
      )
