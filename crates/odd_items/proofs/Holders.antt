-- The first group of an id among what was found is the group of the id, and the places that steps lead to are those of what holds items.
use Rattle.std.proofs.Common.{◌≡◌, ◌≢◌, ℕ, ◌<◌, ◌⊎◌, ◌&&◌, not, Bool, true, false, List, [], ◌∷◌, ◌++◌, filter, length, Some, slice_get, inl, inr, ⊎_elim, refl, sym, ap, ap₂, subst, ◌∙◌, IsTrue}
use Rattle.std.proofs.lemmas.Bool.{and_from, and_parts, false≢true, or_cases, or_right}
use Rattle.std.proofs.lemmas.List.Elements.{filter-append}
use Rattle.std.proofs.lemmas.Option.{same_Some, slice_get_within}
use Rattle.std.specs.Cmp.Lexicographic.{same_text}
use Rattle.std.specs.Prelude.{codes}
use Rattle.odd_text.specs.Same.{is_same}
use Rattle.odd_text.specs.Standing.{StandsIn}
use Rattle.odd_tree.specs.declared.tree.Tree.{Tree, out-Tree}
use Rattle.odd_forms.specs.Names.{is_one_of, is_tei}
use Rattle.odd_text.specs.Same.{is_among}
use Rattle.odd_graph.proofs.Chains.{chained_on}
use Rattle.odd_graph.specs.Graph.{Chained, at_once, through}
use Rattle.odd_items.proofs.ByNames.{fewer, one_search}
use Rattle.odd_items.proofs.InParts.{SplitsFilter, at_split, filter_keeps, from_filter, get_before, place_in, split_at, split_filter, stands_at, to_filter}
use Rattle.odd_items.proofs.Places.{get_left}
use Rattle.odd_items.specs.Groups.{HoldsItems, IsGroupOf, group_names, holder_names, id_of}
use Rattle.odd_items.specs.Search.{Finds, Found, children_found, is_searched}
use Rattle.odd_items.specs.Searching.{IsChildAt}
use Rattle.odd_items.specs.Steps.{IsFirstOf, IsGroupAt, StepsTo}

-- a group may hold items
pub group_holds : (t : Tree) → IsTrue (is_one_of group_names t) → IsTrue (is_one_of holder_names t)
group_holds t h =
    let parts = and_parts (is_tei t) (is_among group_names (out-Tree t).name.local) h in
    and_from (is_tei t) (is_among holder_names (out-Tree t).name.local) parts.0
    (or_right (is_same (out-Tree t).name.local (codes "schemaSpec")) (is_among group_names (out-Tree t).name.local) parts.1)

-- and what may hold items is searched
pub holder_searched : (t : Tree) → IsTrue (is_one_of holder_names t) → IsTrue (is_searched t)
holder_searched t h = and_from (is_tei t) (not (is_one_of (codes "constraintSpec" ∷ []) t)) parts.0 (ap not (ap₂ (λ a b. a && b) parts.0 no_constraint))
  where
    local : List ℕ
    local = (out-Tree t).name.local

    parts : (is_tei t ≡ true) × (is_among holder_names local ≡ true)
    parts = and_parts (is_tei t) (is_among holder_names local) h

    no_constraint : is_among (codes "constraintSpec" ∷ []) local ≡ false
    no_constraint =
        ⊎_elim (λ e. ap (is_among (codes "constraintSpec" ∷ [])) (same_text local (codes "schemaSpec") (sym e)))
        (λ later. ⊎_elim (λ e. ap (is_among (codes "constraintSpec" ∷ [])) (same_text local (codes "specGrp") (sym e))) (λ none. absurd (false≢true none))
        (or_cases (is_same local (codes "specGrp")) false later))
        (or_cases (is_same local (codes "schemaSpec")) (is_among group_names local) parts.1)

-- it is a group
abbrev is_group : Found → Bool
is_group f = is_one_of group_names f.element

module _ (t : Tree) (found : List Found) (finds : Finds holder_names false [] t found) where
  -- the groups are those of what may hold items
  groups : Finds group_names false [] t (filter is_group found)
  groups = fewer holder_names group_names group_holds [] t found finds

  -- the first group of an id among what was found is the group of the id
  pub group_first : (id : List ℕ) (place : ℕ) (group : Found) → IsFirstOf found id place → slice_get found place ≡ Some group → IsGroupOf t id group
  group_first id place group f at = record {
    before = filter is_group parts.0;
    after = filter is_group parts.1;
    found = subst (Finds group_names false [] t) splits groups;
    named = ap (λ g. id_of g.element) (sym same) ∙ f.named;
    first = first;
  }
    where
      same : f.group ≡ group
      same = same_Some f.group group (sym f.is_group.0 ∙ at)

      parts : (before : List Found) × (after : List Found) × (found ≡ before ++ group ∷ after) × (length before ≡ place)
      parts = split_at found place group at

      splits : filter is_group found ≡ filter is_group parts.0 ++ group ∷ filter is_group parts.1
      splits = ap (filter is_group) parts.2 ∙ filter-append is_group parts.0 (group ∷ parts.1)
          ∙ ap (λ gs. filter is_group parts.0 ++ gs) (filter_keeps is_group group parts.1 (ap is_group (sym same) ∙ f.is_group.1))

      first : (other : Found) → StandsIn (filter is_group parts.0) other → id_of other.element ≢ Some id
      first other s =
          let kept = from_filter is_group parts.0 other s in
          let there = place_in parts.0 other kept.0 in
          f.first there.0 other (subst (λ n. there.0 < n) parts.3 (slice_get_within parts.0 there.0 other there.1))
          (ap (λ fs. slice_get fs there.0) parts.2 ∙ get_left parts.0 (group ∷ parts.1) there.0 other there.1, kept.1)

  -- and the group of an id stands among what was found, as the first of the id
  pub first_group : (id : List ℕ) (group : Found) → IsGroupOf t id group → (place : ℕ) × IsFirstOf found id place × (slice_get found place ≡ Some group)
  first_group id group g = (length parts.0, record { group = group; is_group = (at, parts.4); named = g.named; first = first }, at)
    where
      parts : SplitsFilter is_group found g.before group
      parts = split_filter is_group found g.before g.after group (one_search group_names false [] t (filter is_group found) (g.before ++ group ∷ g.after) groups g.found)

      at : slice_get found (length parts.0) ≡ Some group
      at = ap (λ fs. slice_get fs (length parts.0)) parts.2 ∙ at_split parts.0 parts.1 group

      first : (earlier : ℕ) (other : Found) → earlier < length parts.0 → IsGroupAt found earlier other → id_of other.element ≢ Some id
      first earlier other h there =
          let before : slice_get parts.0 earlier ≡ Some other = get_before parts.0 (group ∷ parts.1) earlier other h (ap (λ fs. slice_get fs earlier) (sym parts.2) ∙ there.0) in
          g.first other (subst (λ gs. StandsIn gs other) parts.3 (to_filter is_group parts.0 other (stands_at parts.0 earlier other before) there.1))

  -- where a step leads something stands
  stepped : (holder place : ℕ) → StepsTo found holder place → (h : Found) × (slice_get found place ≡ Some h)
  stepped holder place (StepsTo.inside group child at) = (group, at.0)
  stepped holder place (StepsTo.referred h reference id at stands refers first) = (first.group, first.is_group.0)

  -- a step leads from what holds items to what holds items
  hold_on : (schema : Found) (holder place : ℕ) (one other : Found) → slice_get found holder ≡ Some one → HoldsItems t schema one → StepsTo found holder place → slice_get found place ≡ Some other
      → HoldsItems t schema other
  hold_on schema holder place one other from holds (StepsTo.inside group child at) to =
      let parent : child.parent ≡ one = same_Some child.parent one (sym child.parent_at ∙ from) in
      let there : child.child ≡ other = same_Some child.child other (sym child.child_at ∙ to) in
      let same : group ≡ other = same_Some group other (sym at.0 ∙ to) in
      HoldsItems.inside one holds (subst (λ c. StandsIn (children_found one) c) there (subst (λ f. StandsIn (children_found f) child.child) parent child.stands)) (ap is_group (sym same) ∙ at.1)
  hold_on schema holder place one other from holds (StepsTo.referred h reference id at stands refers first) to =
      let same : h ≡ one = same_Some h one (sym at ∙ from) in
      HoldsItems.referred one reference id holds (subst (λ f. StandsIn (children_found f) reference) same stands) refers (group_first id place other first to)

  -- and so do several
  hold_along : (schema : Found) (holder place : ℕ) (one other : Found) → slice_get found holder ≡ Some one → HoldsItems t schema one → Chained (StepsTo found) holder place
      → slice_get found place ≡ Some other → HoldsItems t schema other
  hold_along schema holder place one other from holds (at_once s) to = hold_on schema holder place one other from holds s to
  hold_along schema holder place one other from holds (through between s k) to =
      let h = stepped holder between s in
      hold_along schema between place h.0 other h.1 (hold_on schema holder between one h.0 from holds s h.1) k to

  -- what steps lead to from the schema holds items
  pub reached : (s : ℕ) (schema : Found) → slice_get found s ≡ Some schema → (place : ℕ) (h : Found) → Chained (StepsTo found) s place → slice_get found place ≡ Some h → HoldsItems t schema h
  reached s schema at place h chain to = hold_along schema s place schema h at HoldsItems.itself chain to

  -- one step more
  step_on : (s holder place : ℕ) → (holder ≡ s) ⊎ Chained (StepsTo found) s holder → StepsTo found holder place → Chained (StepsTo found) s place
  step_on s holder place before step =
      ⊎_elim (λ same. at_once (subst (λ n. StepsTo found n place) same step)) (λ chain. chained_on (StepsTo found) s holder place chain (at_once step)) before

  -- what holds items is the schema, or steps lead to it from there
  pub holds_reached : ((holder : ℕ) (parent child : Found) → slice_get found holder ≡ Some parent → StandsIn (children_found parent) child → IsTrue (is_one_of holder_names child.element)
      → (place : ℕ) × (slice_get found place ≡ Some child) × IsChildAt found holder place)
      → (s : ℕ) (schema : Found) → slice_get found s ≡ Some schema → (h : Found) → HoldsItems t schema h
      → (place : ℕ) × (slice_get found place ≡ Some h) × ((place ≡ s) ⊎ Chained (StepsTo found) s place)
  holds_reached inside_found s schema at h HoldsItems.itself = (s, at, inl refl)
  holds_reached inside_found s schema at h (HoldsItems.inside holder holds stands named) =
      let before = holds_reached inside_found s schema at holder holds in
      let there = inside_found before.0 holder h before.1 stands (group_holds h.element named) in
      (there.0, there.1, inr (step_on s before.0 there.0 before.2 (StepsTo.inside h there.2 (there.1, named))))
  holds_reached inside_found s schema at h (HoldsItems.referred holder reference id holds stands refers group) =
      let before = holds_reached inside_found s schema at holder holds in
      let there = first_group id h group in
      (there.0, there.2, inr (step_on s before.0 there.0 before.2 (StepsTo.referred holder reference id before.1 stands refers there.1)))
