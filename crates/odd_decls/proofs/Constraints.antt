-- The places of the constraints among the items and in them.
use Rattle.std.proofs.Common.{◌≡◌, ◌↔◌, ℕ, ◌⊎◌, inl, inr, ⊎_elim, List, [], None, codes, refl, sym, ap, subst, ◌∙◌, arith, Some, true, ◌++◌}
use Rattle.std.specs.List.{Contains}
use Rattle.odd_text.specs.Same.{is_same}
use Rattle.odd_tree.proofs.PrintedTrees.{same_from}
use Rattle.odd_text.specs.Standing.{StandsIn}
use Rattle.odd_tree.specs.declared.tree.Tree.{Tree}
use Rattle.odd_forms.proofs.Children.{found_among, one_named}
use Rattle.odd_forms.specs.Children.{IsChild}
use Rattle.odd_forms.specs.Faults.{child_in}
use Rattle.odd_forms.specs.Table.{form_at}
use Rattle.odd_forms.specs.declared.element.Element.{Element}
use Rattle.odd_forms.specs.declared.element.Element.TheVariants as element
use Rattle.odd_items.proofs.ConstraintPlaces.{InOne, IsInside, IsOne, adds_both, adds_same}
use Rattle.odd_items.specs.Constraints.{AddsPlaces, IsConstraint, IsConstraintIn, IsReadIn, LeavesOutConstraints}
use Rattle.odd_items.specs.Constraints as inner
use Rattle.odd_items.specs.Groups.{IsItemIn}
use Rattle.odd_items.specs.Listing.{AreItems}
use Rattle.odd_items.specs.Search.{Found}
use Rattle.odd_items.specs.declared.listing.Item.{Item}
use Rattle.odd_items.specs.declared.searching.Level.{Level}
use Rattle.odd_decls.specs.Aside.{IsConstraintOf, IsLeftOut}
use Rattle.odd_decls.specs.Aside as aside
use Rattle.odd_decls.specs.Items.{IsItem, IsTold}

-- a group is read as one that may have no child
none_in_group : (e : Element) (t c : Tree) → e ≡ element.SpecGrp → IsConstraintIn e t c → ⊥
none_in_group e t c group (inner.child g parent read l s k) = from read l
  where
    from : {g : Element} {parent : Tree} → IsReadIn e t g parent → LeavesOutConstraints g → ⊥
    from inner.itself l = let few : Contains [] (codes "constraintSpec") = subst (λ k. Contains (form_at k).left_out_children (codes "constraintSpec")) group l in omega (arith, few.1)
    from (inner.inside {f = f} child is stands read) l = let no : None ≡ Some f = subst (λ k. child_in (form_at k) child ≡ Some f) group is in cc

-- an element of the table that has the name of a group is one
only_group : (e : Element) → is_same (form_at e).name (codes "specGrp") ≡ true → e ≡ element.SpecGrp
only_group element.SpecGrp h = refl
only_group e h = cc

-- so what is read as an item in which a constraint is is no group
no_group : (item c : Tree) (e : Element) → IsChild element.SchemaSpec e item → IsConstraintIn e item c → IsItem e item
no_group item c e is has = (
  is,
  λ group.
      let named = (found_among ((form_at element.SchemaSpec).many ++ (form_at element.SchemaSpec).once) item e is).1 in
      let same : (form_at e).name ≡ codes "specGrp" = ap (λ n. n.local) (sym named ∙ one_named (codes "specGrp") item group) in
      none_in_group e item c (only_group e (same_from _ _ same)) has,
)

-- what an item has is put there
pub item_put : (item : Tree) (old between new : List ℕ) → AddsPlaces (IsOne (IsConstraint item) item) old between
    → AddsPlaces (IsInside (child_in (form_at element.SchemaSpec) item) item) between new → AddsPlaces (IsConstraintOf item) old new
item_put item old between new one in_it =
    adds_same (λ c. IsOne (IsConstraint item) item c ⊎ IsInside (child_in (form_at element.SchemaSpec) item) item c) (IsConstraintOf item) old new
    (λ c. (λ h. ⊎_elim (λ k. subst (IsConstraintOf item) (sym k.1) (aside.itself k.0)) (λ k. aside.inside k.0 (no_group item c k.0 k.1 k.2) k.2) h, back c))
    (adds_both (IsOne (IsConstraint item) item) (IsInside (child_in (form_at element.SchemaSpec) item) item) old between new one in_it)
  where
    back : (c : Tree) → IsConstraintOf item c → IsOne (IsConstraint item) item c ⊎ IsInside (child_in (form_at element.SchemaSpec) item) item c
    back c (aside.itself k) = inl (k, refl)
    back c (aside.inside e is h) = inr (e, is.0, h)

-- the items have those that break rule 2 in the file
pub items_have : (t : Tree) (schemas : List Found) (levels : List Level) (items : List Item) → AreItems levels items (IsItemIn t schemas) → (c : Tree)
    → InOne (λ (item : Item). IsConstraintOf item.tree.now) items c ↔ IsLeftOut t schemas c
items_have t schemas levels items are c = (
  λ h. let f = are.none_else h.0 h.1 in (f.0, f.2, subst (λ u. IsConstraintOf u c) f.1.tree h.2),
  λ h. let i = are.each h.0 h.1 in (i.0, i.1, subst (λ u. IsConstraintOf u c) (sym i.2.tree) h.2),
)

-- each of the items is told by the table
pub items_told : (levels : List Level) (items : List Item) (Is : Found → Type 0) → AreItems levels items Is → (item : Item) → StandsIn items item → IsTold item
items_told levels items Is are item s = let f = are.none_else item s in f.1.element ∙ ap (λ u. child_in (form_at element.SchemaSpec) u) (sym f.1.tree)
