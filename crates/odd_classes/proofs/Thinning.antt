-- The graph of a library without the arrows that lead to no class of type `model`: it has the same ways to such classes.
use Rattle.std.proofs.Common.{◌≡◌, ◌↔◌, ◌⊎◌, ◌<◌, ◌≤◌, ◌+◌, ◌∷◌, ◌++◌, ◌∙◌, ℕ, Bool, true, List, [], length, get_or, set, take, inl, inr, ⊎_elim, refl, sym, ap, subst, arith}
use Rattle.std.proofs.Math.ListN.{get_or-append}
use Rattle.std.proofs.lemmas.Bool.Decides.{eqb_tells}
use Rattle.std.proofs.lemmas.Grind.{common_steps}
use Rattle.std.proofs.lemmas.List.{get_or_push, get_or_read, length_push, length-set}
use Rattle.std.specs.List.{Contains}
use Rattle.odd_graph.proofs.Chains.{chained_back}
use Rattle.odd_graph.proofs.OneMore.{contains_next, contains_with, one_marked}
use Rattle.odd_graph.specs.Graph.{HasArrow, Leads, at_once, through}
use Rattle.odd_graph.specs.Marking.{IsMarked}
use Rattle.odd_library.specs.declared.library.Component.{Component}
use Rattle.odd_text.specs.Text.{text_cmp}
use Rattle.odd_text.specs.declared.key.Key.{Key}
use Rattle.odd_classes.proofs.Linked.{set_same}
use Rattle.odd_classes.proofs.Listed.{ListedSoFar, model_within}
use Rattle.odd_classes.specs.Leading.{AreKept, IsModelHere, LeadAlike, LeadsToModel}
use Rattle.odd_classes.specs.Listing.{IsListedBefore, IsModelAt}

-- a node that has an arrow is a node of the graph
arrow_within : (arrows : List (List ℕ)) (node next : ℕ) → HasArrow arrows node next → node < length arrows
arrow_within arrows node next h = grind (arith, common_steps)

-- the places of the classes among the first entries, with the next one
pub place_more : (entries : List (Key × Component)) (places : List ℕ) (i : ℕ) → ((place : ℕ) → Contains places place ↔ ((place < i) × IsModelHere entries place)) → IsModelHere entries i
    → (place : ℕ) → Contains (places ++ i ∷ []) place ↔ ((place < i + 1) × IsModelHere entries place)
place_more entries places i before model place = (
  λ c. ⊎_elim (λ b. let at = (before place).0 b in (omega (arith, at.0), at.1)) (λ e. (omega (arith, e), subst (IsModelHere entries) e model)) ((contains_with places i place).0 c),
  λ h. (contains_with places i place).1 (⊎_elim (λ same. inr same.1) (λ other. inl ((before place).1 (omega (arith, other.1, h.0), h.1))) (eqb_tells i place)),
)

-- no such class stands at the next one
pub place_none : (entries : List (Key × Component)) (places : List ℕ) (i : ℕ) → ((place : ℕ) → Contains places place ↔ ((place < i) × IsModelHere entries place))
    → ((class : List ℕ) → IsModelAt entries i class → ⊥) → (place : ℕ) → Contains places place ↔ ((place < i + 1) × IsModelHere entries place)
place_none entries places i before none place = (
  λ c. let at = (before place).0 c in (omega (arith, at.0), at.1),
  λ h. ⊎_elim (λ same. absurd (none h.1.0 (subst (λ p. IsModelAt entries p h.1.0) (sym same.1) h.1.1))) (λ other. (before place).1 (omega (arith, other.1, h.0), h.1)) (eqb_tells i place),
)

-- at the end those of all
pub all_places : (entries : List (Key × Component)) (places : List ℕ) (count : ℕ) → length entries ≤ count → ((place : ℕ) → Contains places place ↔ ((place < count) × IsModelHere entries place))
    → (place : ℕ) → Contains places place ↔ IsModelHere entries place
all_places entries places count end are place = (λ c. ((are place).0 c).1, λ m. (are place).1 (omega (arith, end, model_within entries place m.0 m.1), m))

-- so many marks, of which those of the first nodes are set
pub record MarkedSoFar (count : ℕ) (nodes : List ℕ) (marks : List Bool) : Type 0 where
  pub same : length marks ≡ count
  pub marked : (node : ℕ) → IsMarked marks node ↔ (Contains nodes node × (node < count))

-- the next node gets its mark
pub mark_more : (count : ℕ) (nodes : List ℕ) (marks : List Bool) (i : ℕ) → MarkedSoFar count (take i nodes) marks → i < length nodes → get_or nodes i 0 < count
    → MarkedSoFar count (take (i + 1) nodes) (set marks (get_or nodes i 0) true)
mark_more count nodes marks i h within inside = record {
  same = length-set marks (get_or nodes i 0) true ∙ h.same;
  marked = λ node. grind (arith, h.same, h.marked node, one_marked marks (get_or nodes i 0) node (omega (arith, h.same)), contains_next nodes i 0 node within);
}

-- the next node has no mark to get
pub mark_none : (count : ℕ) (nodes : List ℕ) (marks : List Bool) (i : ℕ) → MarkedSoFar count (take i nodes) marks → i < length nodes → count ≤ get_or nodes i 0
    → MarkedSoFar count (take (i + 1) nodes) marks
mark_none count nodes marks i h within past = record {
  same = h.same;
  marked = λ node. grind (arith, h.marked node, contains_next nodes i 0 node within);
}

-- those of the first nodes that have a mark, with the next one
pub keep_more : (nodes : List ℕ) (marks : List Bool) (kept : List ℕ) (i : ℕ) → ((node : ℕ) → Contains kept node ↔ (Contains (take i nodes) node × IsMarked marks node)) → i < length nodes
    → IsMarked marks (get_or nodes i 0) → (node : ℕ) → Contains (kept ++ get_or nodes i 0 ∷ []) node ↔ (Contains (take (i + 1) nodes) node × IsMarked marks node)
keep_more nodes marks kept i before within mark node = (
  λ c. ⊎_elim (λ b. let at = (before node).0 b in ((contains_next nodes i 0 node within).1 (inl at.0), at.1)) (λ e. ((contains_next nodes i 0 node within).1 (inr e), subst (IsMarked marks) e mark))
      ((contains_with kept (get_or nodes i 0) node).0 c),
  λ h. (contains_with kept (get_or nodes i 0) node).1 (⊎_elim (λ c. inl ((before node).1 (c, h.1))) (λ e. inr e) ((contains_next nodes i 0 node within).0 h.0)),
)

-- the next one has none
pub keep_none : (nodes : List ℕ) (marks : List Bool) (kept : List ℕ) (i : ℕ) → ((node : ℕ) → Contains kept node ↔ (Contains (take i nodes) node × IsMarked marks node)) → i < length nodes
    → (IsMarked marks (get_or nodes i 0) → ⊥) → (node : ℕ) → Contains kept node ↔ (Contains (take (i + 1) nodes) node × IsMarked marks node)
keep_none nodes marks kept i before within none node = (
  λ c. let at = (before node).0 c in ((contains_next nodes i 0 node within).1 (inl at.0), at.1),
  λ h. ⊎_elim (λ c. (before node).1 (c, h.1)) (λ e. absurd (none (subst (IsMarked marks) (sym e) h.1))) ((contains_next nodes i 0 node within).0 h.0),
)

-- of the arrows of the first nodes those to nodes that have a mark
pub record KeptSoFar (arrows : List (List ℕ)) (marks : List Bool) (made : List (List ℕ)) (count : ℕ) : Type 0 where
  pub same : length made ≡ count
  pub each : (node next : ℕ) → node < count → Contains (get_or made node []) next ↔ (Contains (get_or arrows node []) next × IsMarked marks next)

-- those of one node more
pub kept_more : (arrows : List (List ℕ)) (marks : List Bool) (made : List (List ℕ)) (i : ℕ) (nexts kept : List ℕ) → KeptSoFar arrows marks made i → i < length arrows → nexts ≡ get_or arrows i nexts
    → ((next : ℕ) → Contains kept next ↔ (Contains nexts next × IsMarked marks next)) → KeptSoFar arrows marks (made ++ kept ∷ []) (i + 1)
kept_more arrows marks made i nexts kept h within is are = record {
  same = length_push made kept ∙ ap (λ n. n + 1) h.same;
  each = λ node next less. ⊎_elim (λ same. subst (Each next) same.1 (last next)) (λ other. earlier node next (omega (arith, other.1, less))) (eqb_tells i node);
}
  where
    Each : ℕ → ℕ → Type 0
    Each next node = Contains (get_or (made ++ kept ∷ []) node []) next ↔ (Contains (get_or arrows node []) next × IsMarked marks next)

    last : (next : ℕ) → Each next i
    last next = rw (get_or_push made kept [] i h.same, ← get_or_read arrows i nexts within is []) (are next)

    earlier : (node next : ℕ) → node < i → Each next node
    earlier node next less = rw (get_or-append made (kept ∷ []) [] node (omega (arith, h.same))) (h.each node next less)

-- at the end those of all
pub all_kept : (arrows : List (List ℕ)) (marks : List Bool) (made : List (List ℕ)) (count : ℕ) → KeptSoFar arrows marks made count → length arrows ≤ count → count ≤ length arrows → AreKept arrows marks made
all_kept arrows marks made count h end within = record {
  same = omega (arith, h.same);
  each = λ node next. (
    λ a.
        let at = (h.each node next (omega (arith, h.same, arrow_within made node next a))).0 a.among in
        (record { among = at.0; within = omega (arith, h.same, a.within) }, at.1),
    λ a. record { among = (h.each node next (omega (arith, arrow_within arrows node next a.0))).1 (a.0.among, a.1); within = omega (arith, h.same, a.0.within) },
  );
}

-- a node that is such a class or leads to one is a node of the graph
leads_within : (entries : List (Key × Component)) (arrows : List (List ℕ)) → length arrows ≡ length entries → (node : ℕ) → LeadsToModel entries arrows node → node < length arrows
leads_within entries arrows same node (inl m) = omega (arith, same, model_within entries node m.0 m.1)
leads_within entries arrows same node (inr (place, at_once s, m)) = arrow_within arrows node place s
leads_within entries arrows same node (inr (place, through between s k, m)) = arrow_within arrows node between s

-- a node with an arrow to one that is such a class or leads to one leads to one
leads_before : (entries : List (Key × Component)) (arrows : List (List ℕ)) (node next : ℕ) → HasArrow arrows node next → LeadsToModel entries arrows next → LeadsToModel entries arrows node
leads_before entries arrows node next a (inl m) = inr (next, at_once a, m)
leads_before entries arrows node next a (inr (place, k, m)) = inr (place, through next a k, m)

module _ (entries : List (Key × Component)) (arrows back : List (List ℕ)) (models : List ℕ) (as_many : length arrows ≡ length entries) (same : length back ≡ length arrows)
    (turned : (node next : ℕ) → HasArrow back next node ↔ HasArrow arrows node next) (are : (place : ℕ) → Contains models place ↔ IsModelHere entries place) where
  -- the arrows turned round, and a node more with arrows to all these classes
  abbrev with_last : List (List ℕ)
  with_last = back ++ models ∷ []

  -- the node more, or one that is such a class or leads to one
  abbrev IsWanted : ℕ → Type 0
  IsWanted node = (node ≡ length arrows) ⊎ LeadsToModel entries arrows node

  -- each arrow is there turned round
  turned_step : (node next : ℕ) → HasArrow arrows node next → HasArrow with_last next node
  turned_step node next a = record {
    among = rw (get_or-append back (models ∷ []) [] next (omega (arith, same, a.within))) ((turned node next).1 a).among;
    within = omega (arith, same, length_push back models, arrow_within arrows node next a);
  }

  -- the node more has an arrow to each of these classes
  last_step : (place : ℕ) → IsModelHere entries place → HasArrow with_last (length arrows) place
  last_step place m = record {
    among = rw (get_or_push back models [] (length arrows) same) ((are place).1 m);
    within = omega (arith, same, as_many, length_push back models, model_within entries place m.0 m.1);
  }

  -- so it leads to each node that is such a class or leads to one
  wanted_reached : (node : ℕ) → LeadsToModel entries arrows node → Leads with_last (length arrows) node
  wanted_reached node (inl m) = at_once (last_step node m)
  wanted_reached node (inr (place, k, m)) = through place (last_step place m) (chained_back (HasArrow arrows) (HasArrow with_last) turned_step node place k)

  -- an arrow from such a node leads to such a node
  wanted_step : (node next : ℕ) → IsWanted node → HasArrow with_last node next → IsWanted next
  wanted_step node next is a = ⊎_elim (λ e. inl (sym e.1)) (λ other. inr (old (omega (arith, other.1, same, length_push back models, a.within)) is)) (eqb_tells (length arrows) next)
    where
      old : next < length arrows → IsWanted node → LeadsToModel entries arrows next
      old less (inl e) = inl ((are next).0 (subst (λ nodes. Contains nodes next) (get_or_push back models [] node (same ∙ sym e)) a.among))
      old less (inr l) =
          let inside : node < length back = omega (arith, same, leads_within entries arrows as_many node l) in
          let step : HasArrow back node next = record { among = subst (λ nodes. Contains nodes next) (get_or-append back (models ∷ []) [] node inside) a.among; within = omega (arith, same, less) } in
          leads_before entries arrows next node ((turned next node).0 step) l

  -- and so does each chain
  wanted_chain : (node last : ℕ) → Leads with_last node last → IsWanted node → IsWanted last
  wanted_chain node last (at_once s) is = wanted_step node last is s
  wanted_chain node last (through between s k) is = wanted_chain between last k (wanted_step node between is s)

  -- so the marks of the nodes that it leads to are those of the nodes that are such classes or lead to one
  pub marks_lead : (nodes : List ℕ) (marks : List Bool) → ((node : ℕ) → Contains nodes node ↔ Leads with_last (length arrows) node)
      → ((node : ℕ) → IsMarked marks node ↔ (Contains nodes node × (node < length arrows))) → (node : ℕ) → IsMarked marks node ↔ LeadsToModel entries arrows node
  marks_lead nodes marks reached marked node = (
    λ m.
        let at = (marked node).0 m in
        ⊎_elim (λ e. absurd (omega (arith, e, at.1))) (λ l. l) (wanted_chain (length arrows) node ((reached node).0 at.0) (inl refl)),
    λ l. (marked node).1 ((reached node).1 (wanted_reached node l), leads_within entries arrows as_many node l),
  )

module _ (entries : List (Key × Component)) (arrows : List (List ℕ)) (marks : List Bool) (made : List (List ℕ)) (lead : (node : ℕ) → IsMarked marks node ↔ LeadsToModel entries arrows node)
    (kept : AreKept arrows marks made) where
  -- what the arrows that are kept lead to, all lead to
  more_leads : (from place : ℕ) → Leads made from place → Leads arrows from place
  more_leads from place (at_once s) = at_once ((kept.each from place).0 s).0
  more_leads from place (through between s k) = through between ((kept.each from between).0 s).0 (more_leads between place k)

  -- where it is a class of type `model`, the other way round
  still_leads : (from place : ℕ) → IsModelHere entries place → Leads arrows from place → Leads made from place
  still_leads from place m (at_once s) = at_once ((kept.each from place).1 (s, (lead place).1 (inl m)))
  still_leads from place m (through between s k) = through between ((kept.each from between).1 (s, (lead between).1 (inr (place, k, m)))) (still_leads between place m k)

  -- so they lead to these classes alike
  pub lead_alike : LeadAlike entries arrows made
  lead_alike = record { same = kept.same; alike = λ from place class m. (more_leads from place, still_leads from place (class, m)) }

-- the lists by a graph that leads to classes of type `model` alike are those by the graph
pub listed_alike : (entries : List (Key × Component)) (arrows made : List (List ℕ)) (count : ℕ) (lists : List (List (List ℕ))) → LeadAlike entries arrows made → ListedSoFar entries made count lists
    → ListedSoFar entries arrows count lists
listed_alike entries arrows made count lists alike so_far = record {
  models = so_far.models;
  sets = λ place class m. set_same text_cmp (IsListedBefore entries made count place) (IsListedBefore entries arrows count place) (get_or lists place [])
      (λ ident. (
        λ l. (l.0, l.1, l.2, (alike.alike l.0 place class m).0 l.3, l.4),
        λ l. (l.0, l.1, l.2, (alike.alike l.0 place class m).1 l.3, l.4),
      )) (so_far.sets place class m);
}
