-- The first group that has the id of an earlier one, by its place in the file.
use Rattle.std.proofs.Common.{◌≡◌, ℕ, ◌<◌, ⊎_elim, Bool, false, List, [], ◌∷◌, ◌++◌, filter, length, Some, None, slice_get, refl, sym, ap, subst, ◌∙◌, append_assoc, arith}
use Rattle.std.proofs.lemmas.Bool.{cases_lt}
use Rattle.std.proofs.lemmas.List.Elements.{filter-append}
use Rattle.std.proofs.lemmas.Option.{same_Some, slice_get_within}
use Rattle.odd_text.specs.Standing.{StandsIn}
use Rattle.odd_tree.specs.Formed.{IsFormed}
use Rattle.odd_tree.specs.declared.tree.Tree.{Tree, out-Tree}
use Rattle.odd_text.specs.Least.{IsLeast}
use Rattle.odd_forms.specs.Names.{is_one_of}
use Rattle.odd_items.proofs.ByNames.{fewer, one_search}
use Rattle.odd_items.proofs.Holders.{group_holds}
use Rattle.odd_items.proofs.Places.{get_left}
use Rattle.odd_items.proofs.Standing.{found_rise}
use Rattle.odd_items.specs.Groups.{group_names, holder_names}
use Rattle.odd_items.specs.Ids.{IsAgain}
use Rattle.odd_items.specs.Search.{Finds, Found}
use Rattle.odd_items.specs.declared.searching.Kept.{Kept}
use Rattle.odd_decls.proofs.IdsFound.{elements, element_at, has_id, id_has, kept_there, none_there}
use Rattle.odd_items.proofs.InParts.{SplitsFilter, at_split, filter_keeps, from_filter, get_before, place_in, split_at, split_filter, stands_at, to_filter}
use Rattle.odd_decls.specs.FileItems.{AreGroupsOf}
use Rattle.odd_decls.specs.Items.{at_of}
use Rattle.odd_decls.specs.Offences.{HasIdAgain}
use Rattle.odd_decls.specs.declared.file_items.Groups.{Groups}

-- it is a group
abbrev is_group : Found → Bool
is_group f = is_one_of group_names f.element

module _ (t : Tree) (founds : List Found) (finds : Finds holder_names false [] t founds) where
  -- the groups are those of what may hold items
  groups_found : Finds group_names false [] t (filter is_group founds)
  groups_found = fewer holder_names group_names group_holds [] t founds finds

  -- one that has the id of an earlier one is such among the groups
  among_groups : (place : ℕ) → IsAgain (elements founds) place → (f : Found) × (slice_get founds place ≡ Some f) × HasIdAgain t (at_of f)
  among_groups place h =
      let e = has_id founds h.id h.earlier h.earlier_has in
      let f = has_id founds h.id place h.has in
      let parts = split_at founds place f.0 f.1.0.0 in
      let low : h.earlier < length parts.0 = omega (arith, h.before, parts.3) in
      let before = get_before parts.0 (f.0 ∷ parts.1) h.earlier e.0 low (ap (λ fs. slice_get fs h.earlier) (sym parts.2) ∙ e.1.0.0) in
      let splits : filter is_group founds ≡ filter is_group parts.0 ++ f.0 ∷ filter is_group parts.1 =
      ap (filter is_group) parts.2 ∙ filter-append is_group parts.0 (f.0 ∷ parts.1) ∙ ap (λ gs. filter is_group parts.0 ++ gs) (filter_keeps is_group f.0 parts.1 f.1.0.1) in (
        f.0,
        f.1.0.0,
        record {
          id = h.id;
          before = filter is_group parts.0;
          after = filter is_group parts.1;
          earlier = e.0;
          later = f.0;
          found = subst (Finds group_names false [] t) splits groups_found;
          is_before = to_filter is_group parts.0 e.0 (stands_at parts.0 h.earlier e.0 before) e.1.0.1;
          earlier_has = e.1.1;
          has = f.1.1;
          placed = refl;
        },
      )

  -- and the other way round
  from_groups : (place : ℕ) → HasIdAgain t place → (i : ℕ) × (f : Found) × (slice_get founds i ≡ Some f) × IsAgain (elements founds) i × (place ≡ at_of f)
  from_groups place h =
      let parts : SplitsFilter is_group founds h.before h.later =
      split_filter is_group founds h.before h.after h.later (one_search group_names false [] t (filter is_group founds) (h.before ++ h.later ∷ h.after) groups_found h.found) in
      let at : slice_get founds (length parts.0) ≡ Some h.later = ap (λ fs. slice_get fs (length parts.0)) parts.2 ∙ at_split parts.0 parts.1 h.later in
      let before = from_filter is_group parts.0 h.earlier (subst (λ gs. StandsIn gs h.earlier) (sym parts.3) h.is_before) in
      let there = place_in parts.0 h.earlier before.0 in
      let earlier : slice_get founds there.0 ≡ Some h.earlier = ap (λ fs. slice_get fs there.0) parts.2 ∙ get_left parts.0 (h.later ∷ parts.1) there.0 h.earlier there.1 in (
        length parts.0,
        h.later,
        at,
        record {
          id = h.id;
          earlier = there.0;
          before = slice_get_within parts.0 there.0 h.earlier there.1;
          earlier_has = id_has founds h.id there.0 h.earlier ((earlier, before.1), h.earlier_has);
          has = id_has founds h.id (length parts.0) h.later ((at, parts.4), h.has);
        },
        h.placed,
      )

  -- the places of what was found rise
  rise : (first end : ℕ) → IsFormed first end t → (i j : ℕ) (f g : Found) → i < j → slice_get founds i ≡ Some f → slice_get founds j ≡ Some g → at_of f < at_of g
  rise first end formed i j f g low at later =
      let parts = split_at founds j g later in
      let before = get_before parts.0 (g ∷ parts.1) i f (omega (arith, parts.3)) (ap (λ fs. slice_get fs i) (sym parts.2) ∙ at) in
      let inner = split_at parts.0 i f before in
      found_rise first end holder_names false [] t founds formed finds inner.0 inner.1 parts.1 f g
      (parts.2 ∙ ap (λ fs. fs ++ g ∷ parts.1) inner.2 ∙ append_assoc inner.0 (f ∷ inner.1) (g ∷ parts.1))

  -- the first by its place among what was found is the first by its place in the file
  least_again : (first end : ℕ) → IsFormed first end t → (place : ℕ) (f : Found) → slice_get founds place ≡ Some f → IsLeast (IsAgain (elements founds)) (Some place)
      → IsLeast (HasIdAgain t) (Some (at_of f))
  least_again first end formed place f at h =
      let here = among_groups place h.0 in (
        subst (λ g. HasIdAgain t (at_of g)) (same_Some here.0 f (sym here.1 ∙ at)) here.2,
        λ other a.
            let there = from_groups other a in
            let low = h.1 there.0 there.3 in
            ⊎_elim
            (λ less. let up = rise first end formed place there.0 f there.1 less at there.2 in omega (arith, there.4))
            (λ same. let one : place ≡ there.0 = omega arith in let g = same_Some f there.1 (sym at ∙ ap (slice_get founds) one ∙ there.2) in omega (arith, there.4, ap at_of g))
            (cases_lt place there.0),
      )

module _ (t : Tree) (first end : ℕ) (formed : IsFormed first end t) (groups : Groups) (are : AreGroupsOf t groups) where
  -- without a place no group has the id of an earlier one
  pub none_again : None ≡ groups.ids.again → IsLeast (HasIdAgain t) None
  none_again none place h =
      let there = from_groups t are.found are.finds place h in
      let least : IsLeast (IsAgain (elements are.found)) None = subst (IsLeast (IsAgain (elements are.found))) (sym none) are.again in
      least there.0 there.3

  -- a place is one of what is kept
  pub not_past_again : (place : ℕ) → Some place ≡ groups.ids.again → slice_get groups.found.items place ≡ None → ⊥
  not_past_again place is none =
      let least : IsLeast (IsAgain (elements are.found)) (Some place) = subst (IsLeast (IsAgain (elements are.found))) (sym is) are.again in
      let has = least.0.has in
      none_there groups are.found place has.0 are.kept none has.1

  -- and what is kept there is the first
  pub its_place_again : (place : ℕ) (kept : Kept) → Some place ≡ groups.ids.again → slice_get groups.found.items place ≡ Some kept → IsLeast (HasIdAgain t) (Some (out-Tree kept.tree.now).at)
  its_place_again place kept is at =
      let least : IsLeast (IsAgain (elements are.found)) (Some place) = subst (IsLeast (IsAgain (elements are.found))) (sym is) are.again in
      let f = element_at are.found place kept.tree.now (kept_there groups are.found place kept are.kept at) in
      subst (λ u. IsLeast (HasIdAgain t) (Some (out-Tree u).at)) f.2 (least_again t are.found are.finds first end formed place f.0 f.1 least)
