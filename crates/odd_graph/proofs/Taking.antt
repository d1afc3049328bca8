-- The last target is taken, and what is kept at the beginning and at the end.
use Rattle.std.proofs.Common.{refl, ◌≡◌, ◌↔◌, ◌<◌, ◌≤◌, ◌+◌, ◌-◌, ℕ, Bool, List, [], ◌∷◌, ◌++◌, length, get_or, take, inl, inr, ⊎_elim, sym, subst, ap, ◌∙◌, arith}
use Rattle.std.proofs.Math.ListN.{replicate}
use Rattle.std.proofs.lemmas.Bool.{cases_lt}
use Rattle.std.proofs.lemmas.List.{get_or_append_left, get_or_push, length-replicate, length_push, take_all, take_more}
use Rattle.std.proofs.lemmas.List.Elements.{Contains-push}
use Rattle.std.specs.List.{Contains}
use Rattle.odd_graph.specs.Graph.{HasArrow, Leads}
use Rattle.odd_graph.specs.Marking.{AreClear, IsMarked}
use Rattle.odd_graph.proofs.Chains.{last_step}
use Rattle.odd_graph.specs.Walking.{AreLedTo, IsFollowed, IsTarget, Keeps, no_node}
use Rattle.odd_graph.specs.declared.walk.Part.{Part}
use Rattle.odd_graph.proofs.Parts.{on_to, top_most}

-- a list is its front and its last item
pub ended : {X : Type 0} (xs : List X) (x : X) → 0 < length xs → x ≡ get_or xs (length xs - 1) x → xs ≡ take (length xs - 1) xs ++ x ∷ []
ended xs x some is =
    let one : length xs - 1 < length xs = omega (arith, some) in
    let all : take (length xs - 1 + 1) xs ≡ xs = take_all (length xs - 1 + 1) xs (omega arith) in
    sym all ∙ take_more xs (length xs - 1) x one ∙ ap (λ y. take (length xs - 1) xs ++ y ∷ []) (sym is)

module _ {arrows : List (List ℕ)} {seen : List Bool} {places stack : List ℕ} (front : List Part) (top : Part) (rest : List ℕ) (target : ℕ) {marks : List Bool}
    (k : Keeps arrows seen places stack (front ++ top ∷ []) (rest ++ target ∷ []) marks no_node) (more : top.work < length (rest ++ target ∷ [])) where
  -- it is a target of the last part
  target_of : (place : ℕ) × IsTarget arrows stack (front ++ top ∷ []) place (length rest) target
  target_of =
      let t = k.targets (length rest) (omega (arith, length_push rest target)) in
      (t.0, record { within = t.1.within; among = subst (Contains (get_or arrows (get_or stack t.0 0) [])) (get_or_push rest target 0 (length rest) refl) t.1.among; owed = t.1.owed })

  -- in which each part starts at its place or before
  most : (part : Part) → Contains (front ++ top ∷ []) part → part.start ≤ target_of.0
  most part c =
      omega (arith, top_most front top part k.order c, (target_of.1.owed top (Contains-push front top)).1 (omega (arith, more, length_push rest target)))

  -- each open node leads to it
  pub taken_led : target < length arrows → AreLedTo arrows stack target
  taken_led within =
      on_to k target_of.0 target most target_of.1.within (record { among = target_of.1.among; within = within })

  -- and what is kept with it in hand
  pub taken : Keeps arrows seen places stack (front ++ top ∷ []) rest marks (λ other. target ≡ other)
  taken = record {
    all_seen = k.all_seen;
    all_places = k.all_places;
    all_marks = k.all_marks;
    placed = k.placed;
    led = k.led;
    joined = k.joined;
    order = k.order;
    within = λ part c. ((k.within part c).0, (target_of.1.owed part c).0 (most part c));
    targets = λ at l.
        let t = k.targets at (omega (arith, l, length_push rest target)) in
        (t.0, record { within = t.1.within; among = subst (Contains (get_or arrows (get_or stack t.0 0) [])) (get_or_append_left rest (target ∷ []) 0 at l) t.1.among; owed = t.1.owed });
    followed = λ place next within a.
        ⊎_elim (λ h. absurd h)
        (λ r. ⊎_elim (λ d. inr (inl d))
        (λ q. ⊎_elim (λ j. inr (inr (inl j)))
        (λ w. ⊎_elim
        (λ l. inr (inr (inr (record { at = w.at; stands = (l, sym (get_or_append_left rest (target ∷ []) 0 w.at l) ∙ w.stands.1); owed = w.owed }))))
        (λ g.
        let same : w.at ≡ length rest = omega (arith, g, w.stands.0, length_push rest target) in
        inl (sym (get_or_push rest target 0 w.at (sym same)) ∙ w.stands.1)) (cases_lt w.at (length rest))) q) r) (k.followed place next within a);
    closed = k.closed;
    sound = k.sound;
    found = k.found;
  }

-- no part stands in an empty list
none_in : (before after : List Part) (part : Part) → [] ≡ before ++ part ∷ after → ⊥
none_in [] after part e = cc
none_in (x ∷ before) after part e = cc

-- at the beginning nothing was seen
kept_first : {arrows : List (List ℕ)} {seen : List Bool} {places : List ℕ} {marks : List Bool} → AreClear arrows seen → AreClear arrows marks → length places ≡ length arrows
    → Keeps arrows seen places [] [] [] marks no_node
kept_first none none_marked same = record {
  all_seen = none.of_all;
  all_places = same;
  all_marks = none_marked.of_all;
  placed = λ place l. absurd (omega (arith, l));
  led = λ place later e l. absurd (omega (arith, l));
  joined = λ place l. absurd (omega (arith, l));
  order = λ before after part other e c. absurd (none_in before after part e);
  within = λ part c. absurd (omega (arith, c.1));
  targets = λ at l. absurd (omega (arith, l));
  followed = λ place next l a. absurd (omega (arith, l));
  closed = λ node next d a. absurd (none.none node d.0);
  sound = λ node is. absurd (none_marked.none node is);
  found = λ node d l. absurd (none.none node d.0);
}

-- with the lists as they are made
pub kept_made : {arrows : List (List ℕ)} {seen : List Bool} {places stack : List ℕ} {parts : List Part} {work : List ℕ} {marks : List Bool}
    → AreClear arrows seen → AreClear arrows marks → places ≡ replicate (length arrows) 0 → stack ≡ [] → parts ≡ [] → work ≡ [] → Keeps arrows seen places stack parts work marks no_node
kept_made {arrows} none none_marked p s q w = rw (p, s, q, w) (kept_first none none_marked (length-replicate (length arrows) 0))

-- where each arrow to what was in hand is followed, or to what is now, the rest is kept
pub followed_by : {arrows : List (List ℕ)} {seen : List Bool} {places stack : List ℕ} {parts : List Part} {work : List ℕ} {marks : List Bool} {hand : ℕ → Type 0} (now : ℕ → Type 0)
    → Keeps arrows seen places stack parts work marks hand → ((place next : ℕ) → place < length stack → hand next → HasArrow arrows (get_or stack place 0) next → IsFollowed seen stack parts work marks now place next)
    → Keeps arrows seen places stack parts work marks now
followed_by now k each = record {
  all_seen = k.all_seen;
  all_places = k.all_places;
  all_marks = k.all_marks;
  placed = k.placed;
  led = k.led;
  joined = k.joined;
  order = k.order;
  within = k.within;
  targets = k.targets;
  followed = λ place next l a. ⊎_elim (λ h. each place next l h a) inr (k.followed place next l a);
  closed = k.closed;
  sound = k.sound;
  found = k.found;
}

-- where no part is left no node is open
pub none_open : {arrows : List (List ℕ)} {seen : List Bool} {places stack : List ℕ} {parts : List Part} {work : List ℕ} {marks : List Bool}
    → Keeps arrows seen places stack parts work marks no_node → length parts ≡ 0 → length stack ≡ 0
none_open {stack} k none =
    ⊎_elim
    (λ l. ⊎_elim (λ s. absurd (omega (arith, s.1.1, none))) (λ j. absurd (omega (arith, j.next))) (k.joined 0 l))
    (λ g. omega (arith, g)) (cases_lt 0 (length stack))

-- where all were seen and none is open those have the mark that lead to themselves
pub all_found : {arrows : List (List ℕ)} {seen : List Bool} {places stack : List ℕ} {parts : List Part} {work : List ℕ} {marks : List Bool}
    → Keeps arrows seen places stack parts work marks no_node → length stack ≡ 0 → ((node : ℕ) → node < length arrows → IsMarked seen node)
    → (node : ℕ) → IsMarked marks node ↔ Leads arrows node node
all_found {arrows} k none all node = (
  k.sound node,
  λ l. k.found node (all node (last_step (HasArrow arrows) node node l).1.within, λ o. absurd (omega (arith, o.1.0, none))) l,
)
