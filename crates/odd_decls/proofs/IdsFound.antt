-- The groups by their ids, told by what was found.
use Rattle.std.proofs.Common.{◌≡◌, ℕ, zero, suc, Bool, true, false, if◌then◌else◌, List, [], ◌∷◌, map, Some, None, slice_get, refl, sym, ap, subst, ◌∙◌, IsTrue}
use Rattle.std.proofs.lemmas.Option.{none-some, same_Some}
use Rattle.std.specs.BTreeMap.{get}
use Rattle.odd_text.specs.Text.{text_cmp}
use Rattle.odd_tree.specs.declared.tree.Tree.{Tree, out-Tree}
use Rattle.odd_forms.specs.Names.{is_one_of}
use Rattle.odd_items.proofs.Holders.{first_group, group_first}
use Rattle.odd_items.specs.Groups.{group_names, id_of}
use Rattle.odd_items.specs.Ids as ids
use Rattle.odd_items.specs.Search.{Found}
use Rattle.odd_items.specs.Steps.{IsFirstOf, IsGroupAt}
use Rattle.odd_items.specs.declared.searching.Kept.{Kept}
use Rattle.odd_decls.specs.FileItems.{AreGroupsOf, IsGroupPlace}
use Rattle.odd_decls.specs.declared.file_items.Groups.{Groups}

-- the elements of what was found
abbrev pub elements : List Found → List Tree
elements founds = map (λ f. f.element) founds

-- what stands at a place among them is of what was found there
pub element_at : (founds : List Found) (place : ℕ) (t : Tree) → slice_get (elements founds) place ≡ Some t → (f : Found) × (slice_get founds place ≡ Some f) × (f.element ≡ t)
element_at [] place t e = absurd (none-some _ e)
element_at (f ∷ founds) zero t e = (f, refl, same_Some f.element t e)
element_at (f ∷ founds) (suc place) t e = element_at founds place t e

-- and the other way round
pub at_element : (founds : List Found) (place : ℕ) (f : Found) → slice_get founds place ≡ Some f → slice_get (elements founds) place ≡ Some f.element
at_element [] place f e = absurd (none-some _ e)
at_element (g ∷ founds) zero f e = ap (λ h. Some h.element) (same_Some g f e)
at_element (g ∷ founds) (suc place) f e = at_element founds place f e

-- an element with an id is a group that has it
with_id : (t : Tree) (id : List ℕ) → ids.id_of t ≡ Some id → IsTrue (is_one_of group_names t) × (id_of t ≡ Some id)
with_id t id e = by_name (is_one_of group_names t) refl e
  where
    by_name : (b : Bool) → is_one_of group_names t ≡ b → (if b then id_of t else None) ≡ Some id → IsTrue (is_one_of group_names t) × (id_of t ≡ Some id)
    by_name true is h = (is, h)
    by_name false is h = absurd (none-some _ h)

to_id : (t : Tree) (id : List ℕ) → IsTrue (is_one_of group_names t) → id_of t ≡ Some id → ids.id_of t ≡ Some id
to_id t id is named = ap (λ b. if b then id_of t else None) is ∙ named

-- the group at a place has the id
abbrev pub HasIdAt : List Found → List ℕ → ℕ → Found → Type 0
HasIdAt founds id place f = IsGroupAt founds place f × (id_of f.element ≡ Some id)

pub has_id : (founds : List Found) (id : List ℕ) (place : ℕ) → ids.HasId (elements founds) id place → (f : Found) × HasIdAt founds id place f
has_id founds id place h =
    let f = element_at founds place h.0 h.1 in
    let named = with_id h.0 id h.2 in
    (f.0, ((f.1, subst (λ t. IsTrue (is_one_of group_names t)) (sym f.2) named.0), ap id_of f.2 ∙ named.1))

pub id_has : (founds : List Found) (id : List ℕ) (place : ℕ) (f : Found) → HasIdAt founds id place f → ids.HasId (elements founds) id place
id_has founds id place f h = (f.element, at_element founds place f h.0.0, to_id f.element id h.0.1 h.1)

-- the first among the elements is the first among what was found
pub first_with : (founds : List Found) (id : List ℕ) (place : ℕ) → ids.IsFirstWith (elements founds) id place → IsFirstOf founds id place
first_with founds id place h =
    let f = has_id founds id place h.has in
    record { group = f.0; is_group = f.1.0; named = f.1.1; first = λ earlier other low there named. h.first earlier low (id_has founds id earlier other (there, named)) }

pub with_first : (founds : List Found) (id : List ℕ) (place : ℕ) → IsFirstOf founds id place → ids.IsFirstWith (elements founds) id place
with_first founds id place f = record {
  has = id_has founds id place f.group (f.is_group, f.named);
  first = λ earlier low h. let g = has_id founds id earlier h in f.first earlier g.0 low g.1.0 g.1.1;
}

-- what is kept at a place is of what was found there
pub kept_there : (groups : Groups) (founds : List Found) (place : ℕ) (kept : Kept) → map (λ k. k.tree.now) groups.found.items ≡ elements founds → slice_get groups.found.items place ≡ Some kept
    → slice_get (elements founds) place ≡ Some kept.tree.now
kept_there groups founds place kept same at = subst (λ ts. slice_get ts place ≡ Some kept.tree.now) same (tree_at groups.found.items place at)
  where
    tree_at : (keeps : List Kept) (i : ℕ) → slice_get keeps i ≡ Some kept → slice_get (map (λ k. k.tree.now) keeps) i ≡ Some kept.tree.now
    tree_at [] i e = absurd (none-some _ e)
    tree_at (k ∷ keeps) zero e = ap (λ o. Some o.tree.now) (same_Some k kept e)
    tree_at (k ∷ keeps) (suc i) e = tree_at keeps i e

-- and something is kept wherever something was found
pub none_there : (groups : Groups) (founds : List Found) (place : ℕ) (t : Tree) → map (λ k. k.tree.now) groups.found.items ≡ elements founds → slice_get groups.found.items place ≡ None
    → slice_get (elements founds) place ≡ Some t → ⊥
none_there groups founds place t same none at = no_tree groups.found.items place none (subst (λ ts. slice_get ts place ≡ Some t) (sym same) at)
  where
    no_tree : (keeps : List Kept) (i : ℕ) → slice_get keeps i ≡ None → slice_get (map (λ k. k.tree.now) keeps) i ≡ Some t → ⊥
    no_tree [] i e h = none-some _ h
    no_tree (k ∷ keeps) zero e h = none-some _ (sym e)
    no_tree (k ∷ keeps) (suc i) e h = no_tree keeps i e h

module _ (t : Tree) (groups : Groups) (are : AreGroupsOf t groups) where
  -- without a place there is no group of the id
  pub no_place : (id : List ℕ) → None ≡ get text_cmp groups.ids.by_id id → IsGroupPlace t id None
  no_place id none group g =
      let f = first_group t are.found are.finds id group g in
      none-some _ (none ∙ (are.first id f.0).1 (with_first are.found id f.0 f.1))

  -- a place is one of what is kept
  pub not_past : (id : List ℕ) (place : ℕ) → Some place ≡ get text_cmp groups.ids.by_id id → slice_get groups.found.items place ≡ None → ⊥
  not_past id place is none =
      let has = ((are.first id place).0 (sym is)).has in
      none_there groups are.found place has.0 are.kept none has.1

  -- and what is kept there is the group of the id
  pub its_place : (id : List ℕ) (place : ℕ) (kept : Kept) → Some place ≡ get text_cmp groups.ids.by_id id → slice_get groups.found.items place ≡ Some kept
      → IsGroupPlace t id (Some (out-Tree kept.tree.now).at)
  its_place id place kept is at =
      let first = first_with are.found id place ((are.first id place).0 (sym is)) in
      let f = element_at are.found place kept.tree.now (kept_there groups are.found place kept are.kept at) in
      (f.0, group_first t are.found are.finds id place f.0 first f.1, ap (λ u. (out-Tree u).at) f.2)
