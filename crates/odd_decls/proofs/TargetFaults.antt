-- What a reference to a group breaks by its target, and the sets of places and of targets that it is looked up in.
use Rattle.std.proofs.Common.{◌≡◌, ◌↔◌, ◌⊎◌, ◌<◌, ◌≤◌, ◌+◌, ℕ, Bool, true, false, cond, if◌then◌else◌, List, [], ◌∷◌, ◌++◌, get_or, length, take, Option, Some, None, inl, inr, ⊎_elim, refl, sym, ap, subst, ◌∙◌, arith}
use Rattle.std.proofs.lemmas.Bool.{false≢true}
use Rattle.std.proofs.lemmas.Cmp.{nat_cmp_total, ranked, tied_itself}
use Rattle.std.proofs.lemmas.Option.{none-some, same_Some}
use Rattle.std.specs.BTreeMap.{is_at}
use Rattle.std.specs.BTreeSet.{BTreeSet, contains, contains_by}
use Rattle.std.specs.Borrow.{Bor}
use Rattle.std.specs.Cmp.Lexicographic.{same_text}
use Rattle.std.specs.List.{list_any}
use Rattle.std.specs.Ordering.{is_eq, nat_cmp}
use Rattle.odd_text.proofs.Least.{least_if}
use Rattle.odd_text.specs.Least.{IsLeast}
use Rattle.odd_items.proofs.Standing.{one_search}
use Rattle.odd_items.specs.Groups.{IsGroupOf, RefersTo, group_names}
use Rattle.odd_items.specs.Search.{Found}
use Rattle.odd_items.specs.declared.listing.Item.{Item}
use Rattle.odd_text.specs.Text.{text_cmp}
use Rattle.odd_text.proofs.InList.{StandsOnce, nothing_stands}
use Rattle.odd_tree.proofs.LastBound.{is_at_text}
use Rattle.odd_tree.proofs.PrintedTrees.{same_from}
use Rattle.odd_tree.specs.declared.tree.Tree.{Tree}
use Rattle.odd_decls.proofs.Where.{once_more, order}
use Rattle.odd_decls.proofs.Where as where_in
use Rattle.odd_decls.specs.Faults.{IsGroupAt, IsStanding, TargetFault, target_of}
use Rattle.odd_decls.specs.FileItems.{IsGroupPlace}
use Rattle.odd_decls.specs.Items.{at_of}

-- of one id there is one group
one_group : (t : Tree) (id : List ℕ) (f g : Found) → IsGroupOf t id f → IsGroupOf t id g → f ≡ g
one_group t id f g a b =
    let both = one_search group_names false [] t (a.before ++ f ∷ a.after) (b.before ++ g ∷ b.after) a.found b.found in
    elim (order a.before f a.after b.before g b.after both) [
      | where_in.earlier r h k ↦ absurd (a.first g (b.before, r, h) b.named)
      | where_in.same h i k ↦ i
      | where_in.later r h k ↦ absurd (b.first f (a.before, r, h) a.named)
    ]

-- a reference refers to one id
one_id : (u : Tree) (id other : List ℕ) → RefersTo u id → RefersTo u other → id ≡ other
one_id u id other a b = let same : 0x23 ∷ id ≡ 0x23 ∷ other = same_Some (0x23 ∷ id) (0x23 ∷ other) (sym a.1 ∙ b.1) in cc

module _ (t : Tree) (places : BTreeSet ℕ) (reference : Tree) where
  -- a target that is no `#` and an id
  pub foreign_least : (made : Option (List ℕ)) → made ≡ None → ((id : List ℕ) → (made ≡ Some id) ↔ RefersTo reference id) → IsLeast (TargetFault t places reference) (Some 2)
  foreign_least made none told = (TargetFault.foreign (λ id r. none-some id (sym none ∙ (told id).1 r)), least)
    where
      least : (rule : ℕ) → TargetFault t places reference rule → 2 ≤ rule
      least rule (TargetFault.foreign f) = omega arith
      least rule (TargetFault.unknown id r f) = omega arith
      least rule (TargetFault.standing id group r is s) = omega arith

  module _ (id : List ℕ) (refers : RefersTo reference id) where
    -- an id that no group has
    pub unknown_least : ((group : Found) → IsGroupOf t id group → ⊥) → IsLeast (TargetFault t places reference) (Some 3)
    unknown_least none = (TargetFault.unknown id refers none, least)
      where
        least : (rule : ℕ) → TargetFault t places reference rule → 3 ≤ rule
        least rule (TargetFault.foreign f) = absurd (f id refers)
        least rule (TargetFault.unknown other r f) = omega arith
        least rule (TargetFault.standing other group r is s) = omega arith

    -- and the id of a group that may stand among the items
    pub standing_least : (at : ℕ) (stands : Bool) → IsGroupPlace t id (Some at) → stands ≡ contains nat_cmp places at → IsLeast (TargetFault t places reference) (if stands then Some 4 else None)
    standing_least at stands (group, is, here) e =
        least_if (TargetFault t places reference) stands 4 (λ h. TargetFault.standing id group refers is (ap (contains nat_cmp places) here ∙ sym e ∙ h)) back
      where
        back : (rule : ℕ) → TargetFault t places reference rule → (stands ≡ true) × (rule ≡ 4)
        back rule (TargetFault.foreign f) = absurd (f id refers)
        back rule (TargetFault.unknown other r f) = absurd (f group (subst (λ w. IsGroupOf t w group) (one_id reference id other refers r) is))
        back rule (TargetFault.standing other found r of s) =
            let same : group ≡ found = one_group t id group found is (subst (λ w. IsGroupOf t w found) (one_id reference other id r refers) of) in
            (e ∙ ap (contains nat_cmp places) (sym here ∙ ap at_of same) ∙ s, refl)

-- what a set has with one more
put_told : (ties old new : Bool) (Was Here Now : Type 0) → new ≡ cond ties true old → (old ≡ true) ↔ Was → (ties ≡ true) ↔ Here → Now ↔ (Was ⊎ Here) → (new ≡ true) ↔ Now
put_told true old new Was Here Now e was here now = (λ t. now.1 (inr (here.0 refl)), λ n. e)
put_told false old new Was Here Now e was here now = (
  λ t. now.1 (inl (was.0 (sym e ∙ t))),
  λ n. ⊎_elim (λ w. e ∙ was.1 w) (λ h. let no : false ≡ true = here.1 h in cc) (now.0 n),
)

-- and where there is none more
none_told : (old : Bool) (Was Here Now : Type 0) → (old ≡ true) ↔ Was → (Here → ⊥) → Now ↔ (Was ⊎ Here) → (old ≡ true) ↔ Now
none_told old Was Here Now was none now = (λ t. now.1 (inl (was.0 t)), λ n. ⊎_elim (λ w. was.1 w) (λ h. absurd (none h)) (now.0 n))

-- numbers that tie are one
number_tied : (a b : ℕ) → (is_at (nat_cmp a) b ≡ true) ↔ (a ≡ b)
number_tied a b = (λ t. grind (arith, ranked a b (nat_cmp a b) refl), λ e. subst (λ c. is_at (nat_cmp a) c ≡ true) e (ap is_eq (tied_itself nat_cmp_total a)))

-- and so are texts
text_tied : (a b : List ℕ) → (is_at (text_cmp a) b ≡ true) ↔ (a ≡ b)
text_tied a b = (λ t. same_text a b (sym (sym (is_at_text a b) ∙ t)), λ e. is_at_text a b ∙ same_from a b e)

-- the set has the text
abbrev pub has_text : BTreeSet (Bor (List ℕ)) → List ℕ → Bool
has_text texts text = contains_by (λ k. text_cmp text k.now) texts

-- one of the items is a reference with the target
abbrev pub HasTargetIn : List Item → List ℕ → Type 0
HasTargetIn items target = StandsOnce (λ i. target_of i.tree.now ≡ Some target) items

-- no target is in an empty set, and none is that of one of no items
pub targets_none : (texts : BTreeSet (Bor (List ℕ))) (target : List ℕ) → texts.keys ≡ [] → (has_text texts target ≡ true) ↔ HasTargetIn [] target
targets_none texts target empty = (
  λ t.
      let no : false ≡ true = sym (ap (list_any (is_at (λ (k : Bor (List ℕ)). text_cmp target k.now))) empty) ∙ t in
      absurd (false≢true no),
  λ s. absurd (nothing_stands s.0 s.1),
)

module _ (items : List Item) (i : ℕ) (item : Item) (within : i < length items) (there : item ≡ get_or items i item) where
  -- the places of groups, with one group more
  pub standing_more : (place at : ℕ) (old new : Bool) → IsGroupAt at item → new ≡ cond (is_at (nat_cmp at) place) true old → (old ≡ true) ↔ IsStanding (take i items) place
      → (new ≡ true) ↔ IsStanding (take (i + 1) items) place
  standing_more place at old new is put was =
      put_told (is_at (nat_cmp at) place) old new (IsStanding (take i items) place) (IsGroupAt place item) (IsStanding (take (i + 1) items) place) put was
      (λ t. (is.0, is.1 ∙ (number_tied at place).0 t), λ g. (number_tied at place).1 (sym is.1 ∙ g.1)) (once_more (IsGroupAt place) items i item within there)

  -- with an item that is none
  pub standing_same : (place : ℕ) (old : Bool) → ((at : ℕ) → IsGroupAt at item → ⊥) → (old ≡ true) ↔ IsStanding (take i items) place → (old ≡ true) ↔ IsStanding (take (i + 1) items) place
  standing_same place old none was =
      none_told old (IsStanding (take i items) place) (IsGroupAt place item) (IsStanding (take (i + 1) items) place) was (none place) (once_more (IsGroupAt place) items i item within there)

  -- the targets of references, with one more
  pub targets_more : (word target : List ℕ) (old new : Bool) → target_of item.tree.now ≡ Some word → new ≡ cond (is_at (text_cmp word) target) true old
      → (old ≡ true) ↔ HasTargetIn (take i items) target → (new ≡ true) ↔ HasTargetIn (take (i + 1) items) target
  targets_more word target old new is put was =
      put_told (is_at (text_cmp word) target) old new (HasTargetIn (take i items) target) (target_of item.tree.now ≡ Some target) (HasTargetIn (take (i + 1) items) target) put was
      (λ t. is ∙ ap Some ((text_tied word target).0 t), λ e. (text_tied word target).1 (same_Some word target (sym is ∙ e)))
      (once_more (λ i. target_of i.tree.now ≡ Some target) items i item within there)

  -- with an item that has none
  pub targets_same : (target : List ℕ) (old : Bool) → target_of item.tree.now ≡ None → (old ≡ true) ↔ HasTargetIn (take i items) target → (old ≡ true) ↔ HasTargetIn (take (i + 1) items) target
  targets_same target old none was =
      none_told old (HasTargetIn (take i items) target) (target_of item.tree.now ≡ Some target) (HasTargetIn (take (i + 1) items) target) was (λ e. none-some target (sym none ∙ e))
      (once_more (λ i. target_of i.tree.now ≡ Some target) items i item within there)
