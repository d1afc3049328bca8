-- Which components reach a class that is a member of itself, and which places lead to no cycle.
use Rattle.std.proofs.Common.{◌≡◌, ℕ, List, inl, inr, ap, subst}
use Rattle.std.specs.FinMap.{is_sorted}
use Rattle.std.specs.Prelude.{IsTrue}
use Rattle.odd_graph.specs.Graph.{Chained, Leads}
use Rattle.odd_graph.specs.Ordering.{IsApart}
use Rattle.odd_library.specs.Odd.{element_key}
use Rattle.odd_library.specs.declared.library.Library.{Library}
use Rattle.odd_meaning.specs.Links.{IsLinked, class_key, classes_of}
use Rattle.odd_text.specs.Key.{key_cmp}
use Rattle.odd_text.specs.declared.key.Key.{Key}
use Rattle.odd_text.specs.declared.key.Kind.TheVariants as kind
use Rattle.odd_classes.proofs.Linked.{chain_linked, chains_agree, linked_chain}
use Rattle.odd_classes.proofs.OnCycles.{class_loops, reached_class}
use Rattle.odd_classes.specs.Offered.{ReachesLoop}
use Rattle.odd_classes.specs.Placing.{IsGraphOf, IsPlaceOf}

module _ (library : Library) (up : IsTrue (is_sorted key_cmp library.parts)) (arrows : List (List ℕ)) (graph : IsGraphOf classes_of library.parts arrows) (place : ℕ) (key : Key) (here : IsPlaceOf library.parts place key) where
  -- a place that leads to one which leads to itself
  pub leads_reach : (other : ℕ) → Leads arrows place other → Leads arrows other other → ReachesLoop library key
  leads_reach other leads loops =
      let there = chain_linked classes_of library up arrows graph place other key here leads in
      let is = reached_class library key there.0 there.2 in
      let back = (chains_agree classes_of library up arrows graph other other there.0 there.0 there.1 there.1).0 loops in
      (there.0.ident, subst (Chained (IsLinked classes_of library) key) is there.2, subst (λ k. Chained (IsLinked classes_of library) k k) is back)

  -- and the other way round
  pub reach_leads : ReachesLoop library key → (other : ℕ) × Leads arrows place other × Leads arrows other other
  reach_leads r =
      let there = linked_chain classes_of library up arrows graph key (class_key r.0) place here r.1 in
      (there.0, there.2, (chains_agree classes_of library up arrows graph there.0 there.0 (class_key r.0) (class_key r.0) there.1 there.1).1 r.2)

-- an element that reaches no such class leads to no cycle
pub element_apart : (library : Library) → IsTrue (is_sorted key_cmp library.parts) → (arrows : List (List ℕ)) → IsGraphOf classes_of library.parts arrows → (place : ℕ) (element : List ℕ)
    → IsPlaceOf library.parts place (element_key element) → (ReachesLoop library (element_key element) → ⊥) → IsApart arrows place
element_apart library up arrows graph place element here none other (inl same) loops =
    let at = subst (λ p. Leads arrows p p) same loops in
    let chain = (chains_agree classes_of library up arrows graph place place (element_key element) (element_key element) here here).0 at in
    let kinds : kind.Element ≡ kind.Class = ap (λ (k : Key). k.kind) (class_loops library (element_key element) chain) in
    cc
element_apart library up arrows graph place element here none other (inr leads) loops = none (leads_reach library up arrows graph place (element_key element) here other leads loops)
