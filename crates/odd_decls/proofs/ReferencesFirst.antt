-- The first fault of the references to groups among the items of a file.
use Rattle.std.proofs.Common.{◌≡◌, ◌↔◌, ◌⊎◌, ◌<◌, ◌+◌, ℕ, Bool, true, false, if◌then◌else◌, IsTrue, List, [], ◌∷◌, ◌++◌, get_or, length, take, Option, Some, None, inl, inr, ⊎_elim, refl, sym, ap, subst, ◌∙◌, arith, codes}
use Rattle.std.proofs.lemmas.Option.{none-some, same_Some}
use Rattle.std.specs.BTreeSet.{BTreeSet, contains}
use Rattle.std.specs.Ordering.{nat_cmp}
use Rattle.odd_text.proofs.Least.{least_same}
use Rattle.odd_text.specs.Least.{IsLeast}
use Rattle.odd_forms.specs.Names.{is_one_of}
use Rattle.odd_items.proofs.ByNames.{found_named}
use Rattle.odd_items.proofs.Standing.{found_under, item_under, same_place}
use Rattle.odd_items.specs.Groups.{IsGroupOf, IsItemIn, RefersTo, group_names, reference_names, schema_names}
use Rattle.odd_items.specs.Listing.{AreItems, IsItemOf}
use Rattle.odd_items.specs.Search.{Finds, Found}
use Rattle.odd_items.specs.declared.listing.Item.{Item}
use Rattle.odd_items.specs.declared.searching.Level.{Level}
use Rattle.odd_library.specs.declared.fault.Fault.{Fault}
use Rattle.odd_text.proofs.InList.{ends}
use Rattle.odd_tree.specs.Elements.{given}
use Rattle.odd_tree.specs.Formed.{IsFormed}
use Rattle.odd_tree.specs.declared.tree.Tree.{Tree, out-Tree}
use Rattle.odd_decls.proofs.FirstFault.{BreaksAt, breaks_more, breaks_same, first_same, lesser_fault}
use Rattle.odd_decls.proofs.InPlaces.{before_begins, before_stands, begins_at, begins_before}
use Rattle.odd_decls.proofs.ItemFaults.{group_placed}
use Rattle.odd_decls.proofs.TargetFaults.{HasTargetIn}
use Rattle.odd_decls.specs.Faults.{IsFirstIn, IsStanding, TargetFault, fault_by, target_of}
use Rattle.odd_decls.specs.FileItems.{ItemsRise}
use Rattle.odd_decls.specs.Items.{at_of}
use Rattle.odd_decls.specs.Offences.{HasTarget, ReferencesOffend}

-- what is given where a test passes
given_where : (b : Bool) (o : Option (List ℕ)) (word : List ℕ) → (if b then o else None) ≡ Some word → (b ≡ true) × (o ≡ Some word)
given_where true o word e = (refl, e)
given_where false o word e = absurd (none-some word e)

-- a target is that of a reference to a group
target_parts : (u : Tree) (word : List ℕ) → target_of u ≡ Some word → IsTrue (is_one_of reference_names u) × (given u (codes "target") ≡ Some word)
target_parts u word e = given_where (is_one_of reference_names u) (given u (codes "target")) word e

-- and such a reference has it
target_from : (u : Tree) (word : List ℕ) → IsTrue (is_one_of reference_names u) → given u (codes "target") ≡ Some word → target_of u ≡ Some word
target_from u word is e = ap (λ b. if b then given u (codes "target") else None) is ∙ e

-- what a reference breaks by its target, or because an earlier one has it, where groups stand among the items at these places
abbrev pub Wrongly : Tree → BTreeSet ℕ → List Item → Item → ℕ → Type 0
Wrongly t places before item rule = (target : List ℕ) × (target_of item.tree.now ≡ Some target) × (TargetFault t places item.tree.now rule ⊎ (HasTargetIn before target × (rule ≡ 4)))

module _ (t : Tree) (places : BTreeSet ℕ) where
  -- the least rule that a reference breaks
  wrongly_least : (before : List Item) (item : Item) (word : List ℕ) (again : Bool) (o : Option ℕ) → target_of item.tree.now ≡ Some word → (again ≡ true) ↔ HasTargetIn before word
      → IsLeast (λ rule. TargetFault t places item.tree.now rule ⊎ (IsTrue again × (rule ≡ 4))) o → IsLeast (Wrongly t places before item) o
  wrongly_least before item word again o is told =
      least_same (λ rule. TargetFault t places item.tree.now rule ⊎ (IsTrue again × (rule ≡ 4))) (Wrongly t places before item) o
      (λ rule f. (word, is, ⊎_elim (λ w. inl w) (λ a. inr (told.0 a.0, a.1)) f))
      (λ rule f. ⊎_elim (λ w. inl w) (λ a. inr (told.1 (subst (HasTargetIn before) (same_Some f.0 word (sym f.1 ∙ is)) a.0), a.1)) f.2)

  module _ (items : List Item) (i : ℕ) (item : Item) (a : Option Fault) (within : i < length items) (there : item ≡ get_or items i item)
      (h : IsFirstIn (BreaksAt (Wrongly t places) (take i items)) a) where
    -- the first fault with one reference more
    pub references_more : (word : List ℕ) (again had : Bool) (rule : Option ℕ) (fault o : Option Fault) → target_of item.tree.now ≡ Some word → again ≡ had
        → (had ≡ true) ↔ HasTargetIn (take i items) word → IsLeast (λ rule. TargetFault t places item.tree.now rule ⊎ (IsTrue again × (rule ≡ 4))) rule
        → fault ≡ fault_by (begins_at item) rule → o ≡ lesser_fault a fault
        → IsFirstIn (BreaksAt (Wrongly t places) (take (i + 1) items)) o
    references_more word again had rule fault o is e told least by lesser =
        let own = wrongly_least (take i items) item word again rule is (λ r. told.0 (sym e ∙ r), λ s. e ∙ told.1 s) least in
        subst (IsFirstIn (BreaksAt (Wrongly t places) (take (i + 1) items))) (sym (lesser ∙ ap (lesser_fault a) by))
        (subst (λ xs. IsFirstIn (BreaksAt (Wrongly t places) xs) (lesser_fault a (fault_by (begins_at item) rule))) (sym (ends items i item within there))
        (breaks_more (Wrongly t places) (take i items) item a rule h own))

    -- and with an item that is none
    pub references_same : target_of item.tree.now ≡ None → IsFirstIn (BreaksAt (Wrongly t places) (take (i + 1) items)) a
    references_same none =
        subst (λ xs. IsFirstIn (BreaksAt (Wrongly t places) xs) a) (sym (ends items i item within there))
        (breaks_same (Wrongly t places) (take i items) item a h (λ rule f. none-some f.0 (sym none ∙ f.1)))

-- in a formed file with these `schemaSpec` and items, among which groups stand at these places
module _ (first end : ℕ) (t : Tree) (formed : IsFormed first end t) (schemas : List Found) (finds : Finds schema_names false [] t schemas) (levels : List Level) (items : List Item)
    (are : AreItems levels items (IsItemIn t schemas)) (rises : ItemsRise items) (places : BTreeSet ℕ) (told : (place : ℕ) → (contains nat_cmp places place ≡ true) ↔ IsStanding items place) where
  -- a group of an id that begins where one stands among the items is one of them
  group_stands : (id : List ℕ) (group : Found) → IsGroupOf t id group → IsStanding items (at_of group) → IsItemIn t schemas group
  group_stands id group is s =
      let found = are.none_else s.0 s.1 in
      let at : at_of found.0 ≡ at_of group = ap (λ u. (out-Tree u).at) (sym found.1.tree) ∙ s.2.1 in
      let under = found_under group_names false [] t (is.before ++ group ∷ is.after) is.found group (is.before, is.after, refl) in
      subst (IsItemIn t schemas) (same_place first end [] t found.0 group formed (item_under t schemas finds found.0 found.2) under at) found.2

  -- and a group that is one of them stands there
  stands_group : (id : List ℕ) (group : Found) → IsGroupOf t id group → IsItemIn t schemas group → IsStanding items (at_of group)
  stands_group id group is among =
      let i = are.each group among in
      let named = found_named group_names false [] t (is.before ++ group ∷ is.after) is.found group (is.before, is.after, refl) in
      (i.0, i.1, (i.2.element ∙ group_placed group.element named, ap (λ u. (out-Tree u).at) i.2.tree))

  -- an item with a target is found as one
  has_target : (item : Item) (found : Found) (target : List ℕ) → IsItemOf levels item found → IsItemIn t schemas found → target_of item.tree.now ≡ Some target → HasTarget t schemas found target
  has_target item found target is among e =
      let parts = target_parts item.tree.now target e in
      record {
        is_item = among;
        is_reference = subst (λ u. IsTrue (is_one_of reference_names u)) is.tree parts.0;
        has = subst (λ u. given u (codes "target") ≡ Some target) is.tree parts.1;
      }

  -- an item with a target that stands among the others
  module _ (before : List Item) (item : Item) (after : List Item) (parts : items ≡ before ++ item ∷ after) (found : Found) (is : IsItemOf levels item found) (among : IsItemIn t schemas found)
      (target : List ℕ) (has : target_of item.tree.now ≡ Some target) (place : ℕ) (at : place ≡ begins_at item) where
    -- it begins where it is found
    found_at : place ≡ at_of found
    found_at = at ∙ ap (λ u. (out-Tree u).at) is.tree

    -- offends where it breaks a rule by its target
    by_target : (rule : ℕ) → TargetFault t places item.tree.now rule → ReferencesOffend t schemas place rule
    by_target rule (TargetFault.foreign f) =
        let is_reference = target_parts item.tree.now target has in
        ReferencesOffend.foreign found target (has_target item found target is among has) (λ id e. f id (is_reference.0, is_reference.1 ∙ ap Some e)) found_at
    by_target rule (TargetFault.unknown id r none) = ReferencesOffend.unknown found id among (subst (λ u. RefersTo u id) is.tree r) none found_at
    by_target rule (TargetFault.standing id group r of s) =
        ReferencesOffend.standing found group id among (subst (λ u. RefersTo u id) is.tree r) of (group_stands id group of ((told (at_of group)).0 s)) found_at

    -- and where an earlier one has that
    by_earlier : HasTargetIn before target → ReferencesOffend t schemas place 4
    by_earlier e =
        let one = are.none_else e.0 (before_stands items before item after rises parts e.0 e.1) in
        let low : begins_at e.0 < begins_at item = before_begins items before item after rises parts e.0 e.1 in
        let first_at : begins_at e.0 ≡ at_of one.0 = ap (λ u. (out-Tree u).at) one.1.tree in
        let then_at : begins_at item ≡ at_of found = ap (λ u. (out-Tree u).at) is.tree in
        ReferencesOffend.again one.0 found target (has_target e.0 one.0 target one.1 one.2 e.2) (has_target item found target is among has) (omega arith) found_at

  -- so what breaks a rule offends
  wrongly_offends : (place rule : ℕ) → BreaksAt (Wrongly t places) items place rule → ReferencesOffend t schemas place rule
  wrongly_offends place rule s =
      let found = are.none_else s.item (s.before, s.after, s.parts) in
      let w = s.is.0 in
      ⊎_elim (by_target s.before s.item s.after s.parts found.0 found.1 found.2 w.0 w.1 place s.is.1 rule)
      (λ e. subst (ReferencesOffend t schemas place) (sym e.1) (by_earlier s.before s.item s.after s.parts found.0 found.1 found.2 w.0 w.1 place s.is.1 e.0)) w.2

  -- what is found with a target is an item that breaks, where it stands, what it breaks by that
  module _ (found : Found) (among : IsItemIn t schemas found) (place : ℕ) (at : place ≡ at_of found) where
    broken_at : (target : List ℕ) (rule : ℕ) → target_of found.element ≡ Some target
        → ((i : Item) (before after : List Item) → items ≡ before ++ i ∷ after → i.tree.now ≡ found.element → TargetFault t places i.tree.now rule ⊎ (HasTargetIn before target × (rule ≡ 4)))
        → BreaksAt (Wrongly t places) items place rule
    broken_at target rule has f =
        let i = are.each found among in
        record {
          before = i.1.0;
          item = i.0;
          after = i.1.1;
          parts = i.1.2;
          is = ((target, ap target_of i.2.tree ∙ has, f i.0 i.1.0 i.1.1 i.1.2 i.2.tree), at ∙ ap (λ u. (out-Tree u).at) (sym i.2.tree));
        }

  -- so what offends breaks a rule
  offends_wrongly : (place rule : ℕ) → ReferencesOffend t schemas place rule → BreaksAt (Wrongly t places) items place rule
  offends_wrongly place rule (ReferencesOffend.foreign found target has none at) =
      broken_at found has.is_item place at target 2 (target_from found.element target has.is_reference has.has)
      (λ i before after parts same. inl (TargetFault.foreign (λ id r.
      none id (same_Some target (0x23 ∷ id) (sym has.has ∙ ap (λ u. given u (codes "target")) (sym same) ∙ r.1)))))
  offends_wrongly place rule (ReferencesOffend.unknown found id among r none at) =
      broken_at found among place at (0x23 ∷ id) 3 (target_from found.element (0x23 ∷ id) r.0 r.1)
      (λ i before after parts same. inl (TargetFault.unknown id (subst (λ u. RefersTo u id) (sym same) r) none))
  offends_wrongly place rule (ReferencesOffend.standing found group id among r of too at) =
      broken_at found among place at (0x23 ∷ id) 4 (target_from found.element (0x23 ∷ id) r.0 r.1)
      (λ i before after parts same. inl (TargetFault.standing id group (subst (λ u. RefersTo u id) (sym same) r) of ((told (at_of group)).1 (stands_group id group of too))))
  offends_wrongly place rule (ReferencesOffend.again earlier found target one two low at) =
      let e = are.each earlier one.is_item in
      broken_at found two.is_item place at target 4 (target_from found.element target two.is_reference two.has)
      (λ i before after parts same.
      let first_at : begins_at e.0 ≡ at_of earlier = ap (λ u. (out-Tree u).at) e.2.tree in
      let then_at : begins_at i ≡ at_of found = ap (λ u. (out-Tree u).at) same in
      let stands = begins_before items before i after rises parts e.0 e.1 (omega arith) in
      inr ((e.0, stands, ap target_of e.2.tree ∙ target_from earlier.element target one.is_reference one.has), refl))

  -- the first of those that break a rule so is the first of the file's
  pub references_first : (o : Option Fault) → IsFirstIn (BreaksAt (Wrongly t places) items) o → IsFirstIn (ReferencesOffend t schemas) o
  references_first o h = first_same (BreaksAt (Wrongly t places) items) (ReferencesOffend t schemas) o wrongly_offends offends_wrongly h
