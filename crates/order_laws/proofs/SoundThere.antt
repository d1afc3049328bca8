-- A `classes` and an `attList` that break nothing give what those give that say the same in another order.
use Rattle.std.proofs.Common.{◌≡◌, ⊎_elim, ℕ, Bool, true, false, ◌&&◌, List, [], ◌∷◌, Some, None, refl, sym, ap, subst, ◌∙◌}
use Rattle.std.specs.Prelude.{codes, cond, find}
use Rattle.std.proofs.lemmas.Option.{same_Some}
use Rattle.odd_text.specs.declared.name.Bind.{Bind}
use Rattle.odd_text.specs.Same.{is_same}
use Rattle.odd_text.specs.Standing.{StandsIn}
use Rattle.odd_tree.specs.Elements.{children_of}
use Rattle.odd_tree.specs.declared.tree.Tree.{Tree}
use Rattle.odd_text.proofs.InList.{first_or_later, nothing_stands, stands_first, stands_later}
use Rattle.odd_forms.specs.Children.{IsChild}
use Rattle.odd_forms.specs.Deep.{DeepFault}
use Rattle.odd_forms.specs.Faults.{DemandFault, FormFault, OwnFault, idents_of, values_in}
use Rattle.odd_forms.specs.Listing.{Lists, ListsAmong, is_definition, is_list}
use Rattle.odd_forms.specs.Names.{is_one_of, tei_namespace}
use Rattle.odd_forms.specs.Table.{form_at}
use Rattle.odd_text.specs.Same.{is_among}
use Rattle.odd_forms.specs.declared.element.Element.TheVariants as element
use Rattle.odd_forms.proofs.Children.{one_named}
use Rattle.odd_library.specs.Members.{membership_of}
use Rattle.odd_attributes.specs.Giving.{AreEditsOf}
use Rattle.odd_attributes.specs.declared.att_edit.AttEdit.{AttEdit}
use Rattle.order_laws.specs.Reordered.{IsReordered}
use Rattle.order_laws.proofs.Folds.{NoneTwice}
use Rattle.order_laws.proofs.GivenThere.{IsSoundAs, ListApart, ValuesApart, edits_there, membership_there}
use Rattle.order_laws.proofs.Shuffled.{stands_either}

-- no class is named twice
pub classes_apart : {left : ℕ} {around : List Bind} {t : Tree} → IsSoundAs element.Classes left around t → NoneTwice (values_in element.MemberOf (codes "key") t)
classes_apart sound value twice = sound 4 (DeepFault.itself (FormFault.own (OwnFault.demand _ (stands_first _ []) (DemandFault.twice value twice))))

-- so the memberships are the same
pub membership_sound : (left : ℕ) (around : List Bind) {t u : Tree} → IsReordered t u → IsSoundAs element.Classes left around t → membership_of t ≡ membership_of u
membership_sound left around r sound = membership_there r (classes_apart sound)

-- no attribute is listed twice
idents_apart : {left : ℕ} {around : List Bind} {t : Tree} → IsSoundAs element.AttList left around t → (defs : List Tree) → Lists t defs → NoneTwice (idents_of defs)
idents_apart sound defs listed value twice = sound 4 (DeepFault.itself (FormFault.own (OwnFault.demand _ (stands_first _ []) (DemandFault.attribute_twice value defs listed twice))))

-- the first child of a name is a child, and has the name
pub found_stands : (local : List ℕ) (ts : List Tree) (x : Tree) → find (is_one_of (local ∷ [])) ts ≡ Some x → StandsIn ts x × (is_one_of (local ∷ []) x ≡ true)
found_stands local [] x e = cc
found_stands local (t ∷ ts) x e = by (is_one_of (local ∷ []) t) refl e (found_stands local ts x)
  where
    by : (b : Bool) → is_one_of (local ∷ []) t ≡ b → cond b (Some t) (find (is_one_of (local ∷ [])) ts) ≡ Some x
        → (find (is_one_of (local ∷ [])) ts ≡ Some x → StandsIn ts x × (is_one_of (local ∷ []) x ≡ true)) → StandsIn (t ∷ ts) x × (is_one_of (local ∷ []) x ≡ true)
    by true is same later = let e : t ≡ x = same_Some t x same in (subst (StandsIn (t ∷ ts)) e (stands_first t ts), subst (λ y. is_one_of (local ∷ []) y ≡ true) e is)
    by false is same later = let h = later same in (stands_later t x ts h.0, h.1)

-- a `valList` may stand in an `attDef`
list_child : (t : Tree) → is_one_of (codes "valList" ∷ []) t ≡ true → IsChild element.AttDef element.AttValList t
list_child t h = ap (λ n. find (λ e. is_same n.ns tei_namespace && is_among ((form_at e).name ∷ []) n.local) (element.AttAltIdent ∷ element.Datatype ∷ element.AttValList ∷ [])) (one_named (codes "valList") t h)

-- no value of it stands twice
values_apart : {left : ℕ} {around : List Bind} {t : Tree} → IsSoundAs element.AttValList left around t → ValuesApart t
values_apart sound value twice = sound 4 (DeepFault.itself (FormFault.own (OwnFault.demand _ (stands_first _ []) (DemandFault.collapsed_twice value twice))))

-- and so none in an `attDef`
list_apart : {left : ℕ} {around : List Bind} {t : Tree} → IsSoundAs element.AttDef left around t → ListApart t
list_apart {t = t} sound list e =
    let h = found_stands (codes "valList") (children_of t) list e in
    values_apart (λ rule f. sound rule (DeepFault.inside element.AttValList list h.0 (list_child list h.1) f))

-- an `attDef` and a list may stand in a list
definition_child : (t : Tree) → is_definition t ≡ true → IsChild element.AttList element.AttDef t
definition_child t d = ap (λ b. cond b (Some element.AttDef) (find (λ e. is_one_of ((form_at e).name ∷ []) t) (element.NestedAttList ∷ []))) d

nested_child : (t : Tree) → is_definition t ≡ false → is_list t ≡ true → IsChild element.AttList element.NestedAttList t
nested_child t d k = ap (λ b. cond b (Some element.AttDef) (find (λ e. is_one_of ((form_at e).name ∷ []) t) (element.NestedAttList ∷ []))) d ∙ ap (λ b. cond b (Some element.NestedAttList) None) k

-- each `attDef` and each list among some children breaks nothing
record AreSound (left : ℕ) (binds : List Bind) (ts : List Tree) : Type 0 where
  definition : (t : Tree) → StandsIn ts t → is_definition t ≡ true → IsSoundAs element.AttDef left binds t
  nested : (t : Tree) → StandsIn ts t → is_definition t ≡ false → is_list t ≡ true → IsSoundAs element.NestedAttList left binds t

-- and among those after the first
sound_later : {left : ℕ} {binds : List Bind} (t : Tree) (ts : List Tree) → AreSound left binds (t ∷ ts) → AreSound left binds ts
sound_later t ts sound = record { definition = λ x s. sound.definition x (stands_later t x ts s); nested = λ x s. sound.nested x (stands_later t x ts s) }

mutual
  -- in no `attDef` of a list in a list a value stands twice
  nested_apart : {left : ℕ} {around : List Bind} {t def : Tree} {defs : List Tree} → IsSoundAs element.NestedAttList left around t → Lists t defs → StandsIn defs def → ListApart def
  nested_apart sound (Lists.list f) s =
      among_apart (record {
        definition = λ x t d rule g. sound rule (DeepFault.inside element.AttDef x t (definition_child x d) g);
        nested = λ x t d k rule g. sound rule (DeepFault.inside element.NestedAttList x t (nested_child x d k) g);
      }) f s

  -- nor in one among the children of a list
  among_apart : {left : ℕ} {binds : List Bind} {def : Tree} {ts defs : List Tree} → AreSound left binds ts → ListsAmong ts defs → StandsIn defs def → ListApart def
  among_apart {def = def} sound ListsAmong.nothing s = absurd (nothing_stands def s)
  among_apart {def = def} sound (ListsAmong.definition {t = t} {ts = ts} {defs = defs} d f) s =
      ⊎_elim (λ e. subst ListApart (sym e) (list_apart (sound.definition t (stands_first t ts) d))) (λ later. among_apart (sound_later t ts sound) f later) (first_or_later t def defs s)
  among_apart {def = def} sound (ListsAmong.nested {t = t} {ts = ts} {inner = inner} {later = later} d k i f is) s =
      ⊎_elim (λ a. nested_apart (sound.nested t (stands_first t ts) d k) i a) (λ b. among_apart (sound_later t ts sound) f b) (stands_either inner later def (subst (λ xs. StandsIn xs def) is s))
  among_apart sound (ListsAmong.other {t = t} {ts = ts} d k f) s = among_apart (sound_later t ts sound) f s

-- of an `attList` that breaks nothing no list of values has one twice
lists_apart : {left : ℕ} {around : List Bind} {t def : Tree} {defs : List Tree} → IsSoundAs element.AttList left around t → Lists t defs → StandsIn defs def → ListApart def
lists_apart sound (Lists.list f) s =
    among_apart (record {
      definition = λ x t d rule g. sound rule (DeepFault.inside element.AttDef x t (definition_child x d) g);
      nested = λ x t d k rule g. sound rule (DeepFault.inside element.NestedAttList x t (nested_child x d k) g);
    }) f s

-- so the edits are the same
pub edits_sound : (left : ℕ) (around : List Bind) {t u : Tree} {edits others : List (List ℕ × AttEdit)} → IsReordered t u → IsSoundAs element.AttList left around t → AreEditsOf t edits → AreEditsOf u others
    → edits ≡ others
edits_sound left around r sound e o = edits_there r (idents_apart sound) (λ defs listed def s. lists_apart sound listed s) e o
