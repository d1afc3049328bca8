-- A new node is opened, as a part of its own.
use Rattle.std.proofs.Common.{refl, ◌≡◌, ◌↔◌, ◌⊎◌, ◌<◌, ◌≤◌, ◌+◌, ◌-◌, ℕ, Bool, true, List, [], ◌∷◌, ◌++◌, length, get_or, set, inl, inr, ⊎_elim, sym, subst, ap, ◌∙◌, arith}
use Rattle.std.proofs.Math.ListN.{length-set}
use Rattle.std.proofs.lemmas.Bool.{cases_lt}
use Rattle.std.proofs.lemmas.List.{get_or-append-add, get_or-append_right, get_or-set_other, get_or-set_same, get_or_append_left, get_or_default, get_or_push, length-append, length_push}
use Rattle.std.proofs.lemmas.List.Elements.{Contains-append_left, Contains-get_or, Contains-push}
use Rattle.std.specs.List.{Contains}
use Rattle.odd_graph.specs.Graph.{HasArrow}
use Rattle.odd_graph.specs.Marking.{IsMarked}
use Rattle.odd_graph.proofs.OneMore.{contains_with, one_marked}
use Rattle.odd_graph.specs.Walking.{AreLedTo, IsDone, IsOwed, Keeps, no_node}
use Rattle.odd_graph.specs.declared.walk.Part.{Part}
use Rattle.odd_graph.proofs.Parts.{order_with}

module _ {arrows : List (List ℕ)} {seen : List Bool} {places stack : List ℕ} {parts : List Part} {work : List ℕ} {marks : List Bool} {node : ℕ} (part : Part) (nexts : List ℕ)
    (k : Keeps arrows seen places stack parts work marks (λ other. node ≡ other)) (led : AreLedTo arrows stack node) (inside : node < length arrows) (new : IsMarked seen node → ⊥)
    (starts : part.start ≡ length stack) (works : part.work ≡ length work) (are : nexts ≡ get_or arrows node []) where
  -- the node has a place among the marks of those that were seen
  in_seen : node < length seen
  in_seen = omega (arith, inside, k.all_seen)

  -- and among the places
  in_places : node < length places
  in_places = omega (arith, inside, k.all_places)

  -- one node more is open
  many : length (stack ++ node ∷ []) ≡ length stack + 1
  many = length_push stack node

  -- and its targets wait too
  more : length (work ++ nexts) ≡ length work + length nexts
  more = length-append work nexts

  -- what stood there stands there
  before : (place : ℕ) → place < length stack → get_or (stack ++ node ∷ []) place 0 ≡ get_or stack place 0
  before place l = get_or_append_left stack (node ∷ []) 0 place l

  -- and the node at the end
  last : (place : ℕ) → place ≡ length stack → get_or (stack ++ node ∷ []) place 0 ≡ node
  last place e = get_or_push stack node 0 place (sym e)

  -- a place is one before the end or the end
  split : (place : ℕ) → place < length (stack ++ node ∷ []) → (place < length stack) ⊎ (place ≡ length stack)
  split place l = ⊎_elim inl (λ g. inr (omega (arith, many, l, g))) (cases_lt place (length stack))

  -- it was seen, and no other that was not
  seen_now : (other : ℕ) → IsMarked (set seen node true) other ↔ (IsMarked seen other ⊎ (node ≡ other))
  seen_now other = one_marked seen node other in_seen

  -- it was not open
  apart : (place : ℕ) → place < length stack → get_or stack place 0 ≡ node → ⊥
  apart place l e = new (subst (IsMarked seen) e (k.placed place l).0)

  -- what is done was done
  done_fro : (other : ℕ) → IsDone (set seen node true) (stack ++ node ∷ []) other → IsDone seen stack other
  done_fro other d = (
    ⊎_elim (λ was. was) (λ e. absurd (d.1 (length stack, (omega (arith, many), last (length stack) refl ∙ e)))) ((seen_now other).0 d.0),
    λ o. d.1 (o.0, (omega (arith, many, o.1.0), before o.0 o.1.0 ∙ o.1.1)),
  )

  -- and is done now
  done_to : (other : ℕ) → IsDone seen stack other → IsDone (set seen node true) (stack ++ node ∷ []) other
  done_to other d = (
    (seen_now other).1 (inl d.0),
    λ o. ⊎_elim (λ l. d.1 (o.0, (l, sym (before o.0 l) ∙ o.1.1))) (λ e. new (subst (IsMarked seen) (sym o.1.1 ∙ last o.0 e) d.0)) (split o.0 o.1.0),
  )

  -- what was owed to a part is
  owed_still : (place at : ℕ) → place < length stack → at < length work → IsOwed parts place at → IsOwed (parts ++ part ∷ []) place at
  owed_still place at l w owed other c =
      ⊎_elim (λ was. owed other was)
      (λ e. subst (λ (p : Part). (p.start ≤ place) ↔ (p.work ≤ at)) e ((λ s. absurd (omega (arith, starts, s, l))), (λ v. absurd (omega (arith, works, v, w)))))
      ((contains_with parts part other).0 c)

  -- and the new targets to that of the node
  owed_now : (at : ℕ) → length work ≤ at → IsOwed (parts ++ part ∷ []) (length stack) at
  owed_now at from other c =
      ⊎_elim (λ was. let w = k.within other was in ((λ s. omega (arith, w.1, from)), (λ v. omega (arith, w.0))))
      (λ e. subst (λ (p : Part). (p.start ≤ length stack) ↔ (p.work ≤ at)) e ((λ s. omega (arith, works, from)), (λ v. omega (arith, starts))))
      ((contains_with parts part other).0 c)

  -- each part starts at the end or before
  most : (other : Part) → Contains (parts ++ part ∷ []) other → other.start ≤ length stack
  most other c =
      ⊎_elim (λ was. omega (arith, (k.within other was).0)) (λ e. let same = ap (λ (p : Part). p.start) e in omega (arith, same, starts)) ((contains_with parts part other).0 c)

  -- the node is open, in a part of its own
  entered : Keeps arrows (set seen node true) (set places node (length stack)) (stack ++ node ∷ []) (parts ++ part ∷ []) (work ++ nexts) marks no_node
  entered =
      record {
        all_seen = length-set seen node true ∙ k.all_seen;
        all_places = length-set places node (length stack) ∙ k.all_places;
        all_marks = k.all_marks;
        placed = λ place l.
            ⊎_elim
            (λ y. rw (before place y) (
              (seen_now (get_or stack place 0)).1 (inl (k.placed place y).0),
              get_or-set_other places node (get_or stack place 0) (length stack) 0 (apart place y) ∙ (k.placed place y).1,
            ))
            (λ e. rw (last place e) ((seen_now node).1 (inr refl), get_or-set_same places node (length stack) 0 in_places ∙ sym e)) (split place l);
        led = λ place later lt l.
            ⊎_elim (λ y. let first : place < length stack = omega (arith, y, lt) in rw (before place first, before later y) (k.led place later lt y))
            (λ e. let first : place < length stack = omega (arith, e, lt) in rw (before place first, last later e) (led place first)) (split later l);
        joined = λ place l.
            ⊎_elim
            (λ y. ⊎_elim (λ s. inl (s.0, Contains-append_left parts (part ∷ []) s.0 s.1, s.2))
            (λ j. let next = j.next in
            let first : j.before < length stack = omega (arith, next, y) in
            inr (record {
              before = j.before;
              next = j.next;
              back = rw (before place y, before j.before first) j.back;
              marked = rw (before place y) j.marked;
              marked_before = rw (before j.before first) j.marked_before;
            })) (k.joined place y))
            (λ e. inl (part, Contains-push parts part, starts ∙ sym e)) (split place l);
        order = order_with parts part k.order (λ other c. omega (arith, starts, (k.within other c).0));
        within = λ other c.
            ⊎_elim (λ was. (omega (arith, many, (k.within other was).0), omega (arith, more, (k.within other was).1)))
            (λ e. let s = ap (λ (p : Part). p.start) e in let v = ap (λ (p : Part). p.work) e in (omega (arith, s, starts, many), omega (arith, v, works, more))) ((contains_with parts part other).0 c);
        targets = λ at l.
            ⊎_elim
            (λ y.
            let t = k.targets at y in (
              t.0,
              record {
                within = omega (arith, many, t.1.within);
                among = rw (before t.0 t.1.within, get_or_append_left work nexts 0 at y) t.1.among;
                owed = owed_still t.0 at t.1.within y t.1.owed;
              },
            ))
            (λ g. (
              length stack,
              record {
                within = omega (arith, many);
                among = rw (last (length stack) refl, get_or-append_right work nexts (length work) at 0 refl g, ← are) (Contains-get_or nexts (at - length work) 0 (omega (arith, l, g, more)));
                owed = owed_now at g;
              },
            )) (cases_lt at (length work));
        followed = λ place next l a.
            ⊎_elim
            (λ y. ⊎_elim
            (λ e. inr (inr (inl (record {
              at = length stack;
              stands = (omega (arith, many), last (length stack) refl ∙ e);
              later = λ other c s. most other c;
              marked = λ same. absurd (omega (arith, same, y));
            }))))
            (λ r. ⊎_elim (λ d. inr (inl (done_to next d)))
            (λ q. ⊎_elim
            (λ j. inr (inr (inl (record {
              at = j.at;
              stands = (omega (arith, many, j.stands.0), before j.at j.stands.0 ∙ j.stands.1);
              later = λ other c s.
                  ⊎_elim (λ was. j.later other was s) (λ e. let same = ap (λ (p : Part). p.start) e in absurd (omega (arith, same, starts, s, y))) ((contains_with parts part other).0 c);
              marked = j.marked;
            }))))
            (λ v. inr (inr (inr (record {
              at = v.at;
              stands = (omega (arith, more, v.stands.0), get_or_append_left work nexts 0 v.at v.stands.0 ∙ v.stands.1);
              owed = owed_still place v.at y v.stands.0 v.owed;
            })))) q) r)
            (k.followed place next y (subst (λ n. HasArrow arrows n next) (before place y) a)))
            (λ e.
            let c : Contains nexts next = rw are (subst (λ n. HasArrow arrows n next) (last place e) a).among in
            inr (inr (inr (record {
              at = length work + c.0;
              stands = (omega (arith, more, c.1), get_or-append-add work nexts c.0 0 ∙ get_or_default nexts c.0 0 next c.1 ∙ c.2);
              owed = subst (λ p. IsOwed (parts ++ part ∷ []) p (length work + c.0)) (sym e) (owed_now (length work + c.0) (omega arith));
            })))) (split place l);
        closed = λ one other d a. done_to other (k.closed one other (done_fro one d) a);
        sound = k.sound;
        found = λ one d l. k.found one (done_fro one d) l;
      }

  -- with the lists as they are made
  pub entered_all : {end : ℕ} {all : List ℕ} {made : List Part} {targets : List ℕ} → end ≡ length stack → all ≡ stack ++ node ∷ [] → made ≡ parts ++ part ∷ [] → targets ≡ work ++ nexts
      → Keeps arrows (set seen node true) (set places node end) all made targets marks no_node
  entered_all e s p w = rw (e, s, p, w) entered
