-- What the arrows among what was found lead to is what holds items.
use Rattle.std.proofs.Common.{◌≡◌, ◌↔◌, ◌⊎◌, ℕ, ◌<◌, inl, inr, ⊎_elim, Bool, true, List, [], length, Some, slice_get, refl, sym, ap, subst, ◌∙◌, arith, IsTrue}
use Rattle.std.proofs.lemmas.Bool.{cases_lt}
use Rattle.std.proofs.lemmas.List.{get_or_past}
use Rattle.std.proofs.lemmas.Option.{same_Some, slice_get_within}
use Rattle.std.specs.BTreeMap.{get}
use Rattle.std.specs.List.{Contains}
use Rattle.odd_text.specs.Text.{text_cmp}
use Rattle.odd_text.proofs.InList.{map_stands, stands_map}
use Rattle.odd_text.specs.Standing.{StandsIn}
use Rattle.odd_tree.specs.Elements.{children_of, within}
use Rattle.odd_tree.specs.declared.tree.Tree.{Tree}
use Rattle.odd_forms.specs.Names.{is_one_of}
use Rattle.odd_graph.proofs.Chains.{chained_along}
use Rattle.odd_graph.specs.Graph.{Chained, HasArrow, Leads}
use Rattle.odd_items.proofs.Holders.{group_holds, holder_searched, holds_reached, reached}
use Rattle.odd_items.specs.Groups.{HoldsItems, RefersTo, group_names, itself}
use Rattle.odd_items.specs.Holding.{LeadsTo}
use Rattle.odd_items.specs.Holding as leads
use Rattle.odd_items.specs.Ids.{IsFirstWith}
use Rattle.odd_items.specs.Listing.{IsHeldBy}
use Rattle.odd_items.specs.Search.{Found, children_found}
use Rattle.odd_items.specs.Steps.{IsFirstOf, StepsTo}
use Rattle.odd_items.specs.Steps as steps
use Rattle.odd_items.specs.declared.searching.Kept.{Kept}
use Rattle.odd_items.specs.declared.searching.Level.{Level}
use Rattle.odd_decls.proofs.IdsFound.{first_with, with_first}
use Rattle.odd_decls.proofs.KeptFound.{as_many, found_at, kept_at, same_trees}
use Rattle.odd_decls.specs.FileItems.{AreHolders, IsHeldIn, ParentsWithin}
use Rattle.odd_decls.specs.declared.file_items.Groups.{Groups}

-- a child of what was found
abbrev child_of : Found → Tree → Found
child_of f c = record { around = within f.around f.element; element = c }

module _ (t : Tree) (levels : List Level) (groups : Groups) (founds : List Found) (are : AreHolders t levels groups founds) where
  abbrev keeps : List Kept
  keeps = groups.found.items

  -- which group is the first of an id
  abbrev First : List ℕ → ℕ → Type 0
  First id place = get text_cmp groups.ids.by_id id ≡ Some place

  -- told by what was found
  first_of : (id : List ℕ) (place : ℕ) → First id place → IsFirstOf founds id place
  first_of id place first =
      first_with founds id place (subst (λ ts. IsFirstWith ts id place) (same_trees are.kept) ((are.ids.first id place).0 first))

  of_first : (id : List ℕ) (place : ℕ) → IsFirstOf founds id place → First id place
  of_first id place first = (are.ids.first id place).1 (subst (λ ts. IsFirstWith ts id place) (sym (same_trees are.kept)) (with_first founds id place first))

  -- parents stand among what is kept
  pub parents_within : ParentsWithin keeps
  parents_within place holder kept at is =
      let c = are.parents.each place holder (kept, at, is) in
      let low = slice_get_within founds holder c.parent c.parent_at in
      let many = as_many are.kept in
      omega arith

  -- what one leads to is a step from it
  step_of : (holder place : ℕ) → LeadsTo keeps First holder place → StepsTo founds holder place
  step_of holder place (leads.inside kept at parent named) =
      let c = are.parents.each place holder (kept, at, parent) in
      let f = kept_at are.kept place kept at in
      let same : kept.tree.now ≡ c.child.element = f.2.tree ∙ ap (λ g. g.element) (same_Some f.0 c.child (sym f.1 ∙ c.child_at)) in
      steps.inside c.child c (c.child_at, subst (λ u. IsTrue (is_one_of group_names u)) same named)
  step_of holder place (leads.referred kept reference id at stands refers first) =
      let f = kept_at are.kept holder kept at in
      steps.referred f.0 (child_of f.0 reference) id f.1
      (map_stands (child_of f.0) (children_of f.0.element) reference (subst (λ u. StandsIn (children_of u) reference) f.2.tree stands)) refers (first_of id place first)

  -- the same stands at two places
  abbrev AreSame : ℕ → ℕ → Type 0
  AreSame one other = (f : Found) × (slice_get founds one ≡ Some f) × (slice_get founds other ≡ Some f)

  -- from where the same stands one is led to where the same stands
  led : (holder next one : ℕ) → AreSame holder one → StepsTo founds holder next → (other : ℕ) × AreSame next other × LeadsTo keeps First one other
  led holder next one same (steps.inside group c at) =
      let parent : c.parent ≡ same.0 = same_Some c.parent same.0 (sym c.parent_at ∙ same.1) in
      let child : group ≡ c.child = same_Some group c.child (sym at.0 ∙ c.child_at) in
      let named : IsTrue (is_one_of group_names c.child.element) = subst (λ f. IsTrue (is_one_of group_names f.element)) child at.1 in
      let h = are.parents.all refl one c.parent c.child (same.2 ∙ ap (λ f. Some f) (sym parent)) c.stands (holder_searched c.child.element (group_holds c.child.element named)) (group_holds c.child.element named) in
      let f = kept_at are.kept h.0 h.2.0 h.2.1 in
      let tree : c.child.element ≡ h.2.0.tree.now = ap (λ g. g.element) (same_Some c.child f.0 (sym h.1 ∙ f.1)) ∙ sym f.2.tree in
      (h.0, (c.child, c.child_at, h.1), leads.inside h.2.0 h.2.1 h.2.2 (subst (λ u. IsTrue (is_one_of group_names u)) tree named))
  led holder next one same (steps.referred h reference id at stands refers first) =
      let parent : h ≡ same.0 = same_Some h same.0 (sym at ∙ same.1) in
      let kept = found_at are.kept one same.0 same.2 in
      let r = stands_map (child_of same.0) (children_of same.0.element) reference (subst (λ f. StandsIn (children_found f) reference) parent stands) in
      let element : reference.element ≡ r.0 = ap (λ f. f.element) r.2 in (
        next,
        (first.group, first.is_group.0, first.is_group.0),
        leads.referred kept.0 r.0 id kept.1 (subst (λ u. StandsIn (children_of u) r.0) (sym kept.2.tree) r.1) (subst (λ u. RefersTo u id) element refers) (of_first id next first),
      )

  module _ (arrows : List (List ℕ)) (many : length arrows ≡ length keeps)
      (is_arrow : (holder place : ℕ) → holder < length keeps → place < length keeps → HasArrow arrows holder place ↔ LeadsTo keeps First holder place) where
    -- an arrow begins at one of the places
    arrow_within : (holder place : ℕ) → HasArrow arrows holder place → holder < length keeps
    arrow_within holder place a =
        ⊎_elim (λ low. omega arith) (λ past. let no = subst (λ l. Contains l place) (get_or_past arrows holder [] past) a.among in absurd (omega (arith, no.1))) (cases_lt holder (length arrows))

    -- it is a step
    arrow_step : (holder place one : ℕ) → holder ≡ one → HasArrow arrows holder place → (other : ℕ) × (place ≡ other) × StepsTo founds one other
    arrow_step holder place one same a =
        let within : place < length keeps = omega (arith, a.within) in
        (place, refl, subst (λ h. StepsTo founds h place) same (step_of holder place ((is_arrow holder place (arrow_within holder place a) within).0 a)))

    -- and each step is an arrow, from where the same stands
    step_arrow : (holder place one : ℕ) → AreSame holder one → StepsTo founds holder place → (other : ℕ) × AreSame place other × HasArrow arrows one other
    step_arrow holder place one same s =
        let l = led holder place one same s in
        let kept = as_many are.kept in
        let from = slice_get_within founds one same.0 same.2 in
        let to = slice_get_within founds l.0 l.1.0 l.1.2 in
        (l.0, l.1, (is_arrow one l.0 (omega arith) (omega arith)).1 l.2)

    module _ (marks : List Bool) (first : ℕ) (schema : Found) (at : slice_get founds first ≡ Some schema)
        (is_marked : (place : ℕ) → (slice_get marks place ≡ Some true) ↔ ((place < length arrows) × ((place ≡ first) ⊎ Leads arrows first place))) where
      -- what stands in one that is marked stands in one that holds items
      pub held_in : (f : Found) → IsHeldBy founds marks f → IsHeldIn t schema f
      held_in f h = (
        h.holder,
        ⊎_elim
            (λ same. subst (HoldsItems t schema) (same_Some schema h.holder (sym at ∙ ap (slice_get founds) (sym same) ∙ h.holder_at)) itself)
            (λ chain. let c = chained_along (HasArrow arrows) (StepsTo founds) (λ one other. one ≡ other) arrow_step first h.place first refl chain in
            reached t founds are.finds first schema at h.place h.holder (subst (Chained (StepsTo founds) first) (sym c.1) c.2) h.holder_at)
            ((is_marked h.place).0 h.marked).1,
        h.stands,
      )

      -- and the other way round
      pub in_held : (f : Found) → IsHeldIn t schema f → IsHeldBy founds marks f
      in_held f h =
          let r = holds_reached t founds are.finds (λ holder parent child there stands named.
          let p = are.parents.all refl holder parent child there stands (holder_searched child.element named) named in (p.0, p.1, are.parents.each p.0 holder p.2)) first schema at h.0 h.1 in
          let kept = as_many are.kept in
          ⊎_elim
          (λ same. marked_at first (slice_get_within founds first schema at) (inl refl) (ap (slice_get founds) (sym same) ∙ r.1))
          (λ chain. let c = chained_along (StepsTo founds) (HasArrow arrows) AreSame step_arrow first r.0 first (schema, at, at) chain in
          let there : slice_get founds c.0 ≡ Some h.0 = c.1.2 ∙ sym c.1.1 ∙ r.1 in
          marked_at c.0 (slice_get_within founds c.0 h.0 there) (inr c.2) there) r.2
        where
          marked_at : (place : ℕ) → place < length founds → (place ≡ first) ⊎ Leads arrows first place → slice_get founds place ≡ Some h.0 → IsHeldBy founds marks f
          marked_at place low leads there = record {
            place = place;
            holder = h.0;
            marked = let kept = as_many are.kept in (is_marked place).1 (omega arith, leads);
            holder_at = there;
            stands = h.2;
          }
