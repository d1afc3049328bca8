-- A file that says the same in another order as one without an offence has none.
use Rattle.std.proofs.Common.{◌≡◌, ◌<◌, ◌≤◌, ◌⊎◌, ⊎_elim, ℕ, true, false, List, [], ◌∷◌, length, refl, sym, ap, ap₂, subst, ◌∙◌, arith}
use Rattle.std.proofs.lemmas.Bool.{cases_order}
use Rattle.std.specs.Prelude.{codes}
use Rattle.odd_text.specs.declared.name.Bind.{Bind}
use Rattle.odd_tree.specs.Elements.{within}
use Rattle.odd_tree.specs.declared.tree.Tree.{Tree, out-Tree}
use Rattle.odd_text.proofs.InList.{nothing_stands, stands_first}
use Rattle.odd_forms.specs.Faults.{OwnFault}
use Rattle.odd_forms.specs.Names.{is_one_of}
use Rattle.odd_forms.specs.Table.{form_at}
use Rattle.odd_forms.specs.declared.element.Element.TheVariants as element
use Rattle.odd_forms.proofs.Children.{child_named, named_one}
use Rattle.odd_items.proofs.ByNames.{found_named, one_search}
use Rattle.odd_items.specs.Groups.{IsGroupOf, IsItemIn, reference_names, schema_names}
use Rattle.odd_items.specs.Search.{Finds, Found}
use Rattle.odd_decls.specs.Items.{IsSpecOf, at_of}
use Rattle.odd_decls.specs.Offences.{HasTarget, ItemFault, ItemsOffend, Offends, OffendsWhole, ReferencesOffend, SchemasOffend}
use Rattle.order_laws.specs.Reordered.{IsReordered}
use Rattle.order_laws.proofs.Alike.{same_given, same_one_of, same_within}
use Rattle.order_laws.proofs.FaultsThere.{child_fault_there, deep_fault_there, is_item_there, is_spec_there, own_fault_there}
use Rattle.order_laws.proofs.OneToOne.{AtMostOne, matched_few}
use Rattle.order_laws.proofs.Pairing.{AreBeside, AreFirstsBeside, HasOwnIds, IsPairing, firsts_of_few, group_there, item_there, own_ids_there, refers_beside, turned}

-- no group has the id of an earlier one
pub own_ids_whole : {t : Tree} (schemas : List Found) → Finds schema_names false [] t schemas → ((place rule : ℕ) → OffendsWhole t place rule → ⊥) → HasOwnIds t
own_ids_whole schemas finds none place again = none place 4 (record { schemas = schemas; found = finds; offends = Offends.group again })

-- there is one `schemaSpec` at most
pub few_schemas : {t : Tree} (schemas : List Found) → Finds schema_names false [] t schemas → ((place rule : ℕ) → OffendsWhole t place rule → ⊥) → length schemas ≤ 1
few_schemas [] finds none = omega arith
few_schemas (x ∷ []) finds none = omega arith
few_schemas (x ∷ y ∷ rest) finds none =
    absurd (none (at_of y) 4 (record { schemas = x ∷ y ∷ rest; found = finds; offends = Offends.schema (SchemasOffend.again y (stands_first y rest) refl) }))

-- which is beside that of the other, where it has one
few_beside : {Beside : Tree → Tree → Type 0} {t u : Tree} (p : IsPairing Beside t u) (schemas others : List Found) → Finds schema_names false [] t schemas
    → Finds schema_names false [] u others → ((place rule : ℕ) → OffendsWhole t place rule → ⊥) → AtMostOne (AreBeside Beside) schemas others
few_beside {Beside = Beside} {u = u} p schemas others f g none =
    let h = p.finds schema_names false schemas f in
    let few = matched_few (AreBeside Beside) schemas h.0 h.2 (few_schemas schemas f none) in
    subst (AtMostOne (AreBeside Beside) schemas) (one_search schema_names false [] u h.0 others h.1 g) few

-- so the first of the one is beside the first of the other
pub firsts_whole : {Beside : Tree → Tree → Type 0} {t u : Tree} (p : IsPairing Beside t u) {schemas others : List Found} → Finds schema_names false [] t schemas
    → Finds schema_names false [] u others → ((place rule : ℕ) → OffendsWhole t place rule → ⊥) → AreFirstsBeside Beside schemas others
firsts_whole p {schemas} {others} f g none = firsts_of_few (few_beside p schemas others f g none)

-- What is told of an item, whatever file it is in

-- what it breaks under the declarations around it
fault_there : (around : List Bind) {x y : Tree} (rule : ℕ) → IsReordered x y → ItemFault around x rule → ItemFault around y rule
fault_there around rule r (ItemFault.misplaced f) = ItemFault.misplaced (child_fault_there (form_at element.SchemaSpec) rule r f)
fault_there around {x} rule r (ItemFault.deep e is f) =
    let named = named_one (form_at e).name x (child_named element.SchemaSpec e x is.0) in
    ItemFault.deep e (is_item_there e r is) (deep_fault_there e 60 around rule named r f)

module _ {Beside : Tree → Tree → Type 0} {t u : Tree} (p : IsPairing Beside t u) where
  -- two that are beside one another say the same in another order
  alike_beside : {f g : Found} → AreBeside Beside f g → IsReordered f.element g.element
  alike_beside {f} {g} b = p.alike f.element g.element b.beside

  -- and one is beside one alone
  one_beside : (f g h : Found) → AreBeside Beside f g → AreBeside Beside f h → g ≡ h
  one_beside f g h b c =
      let made : List Bind → Tree → Found = λ around x. record { around = around; element = x } in
      ap₂ made (sym b.around ∙ c.around) (p.one f.element g.element f.element h.element b.beside c.beside refl).1

  -- of two at different places one comes first, in whatever order
  apart_there : (f g h k : Found) → AreBeside Beside f g → AreBeside Beside h k → at_of f < at_of h → (at_of g < at_of k) ⊎ (at_of k < at_of g)
  apart_there f g h k b c less = ⊎_elim (λ same. absurd (apart same)) (λ either. either) (cases_order (at_of g) (at_of k))
    where
      apart : at_of g ≡ at_of k → ⊥
      apart same = let e : at_of f ≡ at_of h = ap (λ x. (out-Tree x).at) (p.one_back f.element g.element h.element k.element b.beside c.beside same).0 in omega (arith, less)

  -- what an item breaks, one beside it does
  item_fault_there : (f g : Found) (rule : ℕ) → AreBeside Beside f g → ItemFault f.around f.element rule → ItemFault g.around g.element rule
  item_fault_there f g rule b x = subst (λ around. ItemFault around g.element rule) b.around (fault_there f.around rule (alike_beside b) x)

  -- and so does the `schemaSpec`
  schemas_there : {schemas others : List Found} {place rule : ℕ} → Finds schema_names false [] t schemas → AtMostOne (AreBeside Beside) schemas others
      → SchemasOffend schemas place rule → (there : ℕ) × SchemasOffend others there rule
  schemas_there finds AtMostOne.none o = elim o [ ]
  schemas_there {rule = rule} finds (AtMostOne.one x y b) (SchemasOffend.itself f at) =
      let r = alike_beside b in
      let named : is_one_of schema_names x.element ≡ true = found_named schema_names false [] t (x ∷ []) finds x (stands_first x []) in
      let binds : within x.around x.element ≡ within y.around y.element = ap (λ around. within around x.element) b.around ∙ same_within y.around r in
      let g = own_fault_there element.SchemaSpec (within x.around x.element) rule named r f in
      (at_of y, SchemasOffend.itself (subst (λ around. OwnFault (form_at element.SchemaSpec) around y.element rule) binds g) refl)
  schemas_there finds (AtMostOne.one x y b) (SchemasOffend.again other s at) = absurd (nothing_stands other s)

  module _ (own : HasOwnIds t) {schemas others : List Found} (firsts : AreFirstsBeside Beside schemas others) where
    -- an item has one beside it
    there_of : (item : Found) → IsItemIn t schemas item → (h : Found) × IsItemIn u others h × AreBeside Beside item h
    there_of item is = item_there p own firsts is

    -- what items break
    items_there : {place rule : ℕ} → ItemsOffend t schemas place rule → (there : ℕ) × ItemsOffend u others there rule
    items_there {rule = rule} (ItemsOffend.alone item is f at) =
        let h = there_of item is in (at_of h.0, ItemsOffend.alone h.0 h.1 (item_fault_there item h.0 rule h.2 f) refl)
    items_there (ItemsOffend.twice key earlier item first is less one other at) =
        let g = there_of earlier first in
        let h = there_of item is in
        let k : IsSpecOf key g.0.element = is_spec_there (alike_beside g.2) one in
        let l : IsSpecOf key h.0.element = is_spec_there (alike_beside h.2) other in
        ⊎_elim (λ before. (at_of h.0, ItemsOffend.twice key g.0 h.0 g.1 h.1 before k l refl)) (λ after. (at_of g.0, ItemsOffend.twice key h.0 g.0 h.1 g.1 after l k refl))
        (apart_there earlier g.0 item h.0 g.2 h.2 less)

    -- a reference to a group has its target
    target_there : (item : Found) (target : List ℕ) → HasTarget t schemas item target → (h : Found) × HasTarget u others h target × AreBeside Beside item h
    target_there item target has =
        let h = there_of item has.is_item in
        let r = alike_beside h.2 in
        (h.0, record { is_item = h.1; is_reference = sym (same_one_of reference_names r) ∙ has.is_reference; has = sym (same_given (codes "target") r) ∙ has.has }, h.2)

    -- a group that stands among the items has become one that does
    standing_there : (id : List ℕ) (group : Found) → IsGroupOf t id group → IsItemIn t schemas group → (h : Found) × IsGroupOf u id h × IsItemIn u others h
    standing_there id group of is =
        let g = group_there p own id group of in
        let h = there_of group is in
        (g.0, g.1, subst (IsItemIn u others) (one_beside group h.0 g.0 h.2 g.2) h.1)

    -- what references break
    references_there : {place rule : ℕ} → ReferencesOffend t schemas place rule → (there : ℕ) × ReferencesOffend u others there rule
    references_there (ReferencesOffend.foreign item target has other at) =
        let h = target_there item target has in (at_of h.0, ReferencesOffend.foreign h.0 target h.1 other refl)
    references_there (ReferencesOffend.unknown item id is refers none at) =
        let h = there_of item is in
        let back : (group : Found) → IsGroupOf u id group → ⊥ = λ group of. (let g = group_there (turned p) (own_ids_there p own) id group of in none g.0 g.1) in
        (at_of h.0, ReferencesOffend.unknown h.0 id h.1 (refers_beside p item.element h.0.element id h.2.beside refers) back refl)
    references_there (ReferencesOffend.standing item group id is refers of among at) =
        let h = there_of item is in
        let g = standing_there id group of among in
        (at_of h.0, ReferencesOffend.standing h.0 g.0 id h.1 (refers_beside p item.element h.0.element id h.2.beside refers) g.1 g.2 refl)
    references_there (ReferencesOffend.again earlier item target one other less at) =
        let g = target_there earlier target one in
        let h = target_there item target other in
        ⊎_elim (λ before. (at_of h.0, ReferencesOffend.again g.0 h.0 target g.1 h.1 before refl)) (λ after. (at_of g.0, ReferencesOffend.again h.0 g.0 target h.1 g.1 after refl))
        (apart_there earlier g.0 item h.0 g.2 h.2 less)

  -- what a file breaks in which no group has the id of an earlier one and at most one `schemaSpec` stands, so does the other
  pub offends_there : {schemas others : List Found} {place rule : ℕ} → HasOwnIds t → Finds schema_names false [] t schemas → AtMostOne (AreBeside Beside) schemas others
      → Offends t schemas place rule → (there : ℕ) × Offends u others there rule
  offends_there own finds few (Offends.schema o) = let h = schemas_there finds few o in (h.0, Offends.schema h.1)
  offends_there own finds few (Offends.item o) = let h = items_there own (firsts_of_few few) o in (h.0, Offends.item h.1)
  offends_there own finds few (Offends.reference o) = let h = references_there own (firsts_of_few few) o in (h.0, Offends.reference h.1)
  offends_there own finds few (Offends.group {place = place} o) = absurd (own place o)

-- a file has no offence where one has none that says the same in another order
pub unoffended_there : {Beside : Tree → Tree → Type 0} {t u : Tree} → IsPairing Beside t u → ((place rule : ℕ) → OffendsWhole t place rule → ⊥)
    → (place rule : ℕ) → OffendsWhole u place rule → ⊥
unoffended_there {Beside = Beside} p none place rule o =
    let k = p.finds_back schema_names false o.schemas o.found in
    let few = few_beside p k.0 o.schemas k.1 o.found none in
    let own = own_ids_there p (own_ids_whole k.0 k.1 none) in
    let h = offends_there (turned p) own o.found (few_turned few) o.offends in
    none h.0 rule (record { schemas = k.0; found = k.1; offends = h.1 })
  where
    few_turned : {schemas others : List Found} → AtMostOne (AreBeside Beside) schemas others → AtMostOne (AreBeside (λ y x. Beside x y)) others schemas
    few_turned AtMostOne.none = AtMostOne.none
    few_turned (AtMostOne.one x y b) = AtMostOne.one y x (record { around = sym b.around; beside = b.beside })
