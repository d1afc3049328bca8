-- The least rule that an element breaks beside its children, by children that are no element of the table there, and at any depth.
use Rattle.std.proofs.Common.{◌≡◌, ◌≤◌, ℕ, Bool, true, false, ◌||◌, if◌then◌else◌, List, [], ◌∷◌, Option, Some, None, ◌⊎◌, inl, inr, ⊎_elim, refl, sym, subst, ◌∙◌, ◌↔◌, arith, leb, IsTrue}
use Rattle.std.specs.Prelude.{count_by, is_some, nat_le}
use Rattle.std.specs.List.{list_any}
use Rattle.std.proofs.lemmas.Option.{same_Some}
use Rattle.std.proofs.lemmas.Bool.{both_ways, cases_Bool, leb-false, leb-true}
use Rattle.odd_text.specs.declared.name.Bind.{Bind}
use Rattle.odd_tree.specs.declared.tree.Tree.{Tree}
use Rattle.odd_tree.specs.Elements.{children_of, given, within}
use Rattle.odd_text.proofs.InList.{StandsOnce}
use Rattle.odd_forms.specs.declared.element.Element.{Element}
use Rattle.odd_forms.specs.Faults.{AttributeFault, ChildFault, DemandFault, FormFault, OwnFault, child_in}
use Rattle.odd_forms.specs.Form.{Form}
use Rattle.odd_forms.specs.Children.{IsChild}
use Rattle.odd_forms.specs.Deep.{DeepFault, PlacedFault, is_level, left_inside}
use Rattle.odd_text.specs.Least.{Among, IsLeast}
use Rattle.odd_forms.specs.Names.{is_one_of, is_passed_over, is_relax_ng, is_tei}
use Rattle.odd_forms.specs.Table.{form_at}
use Rattle.odd_forms.proofs.Children.{child_named, named_not_relax, never_left_out}
use Rattle.odd_text.proofs.Least.{least_any, least_if, least_or, least_same, lesser_rule}

-- a child breaks no rule below 2
child_from_two : (form : Form) (c : Tree) (rule : ℕ) → ChildFault form c rule → 2 ≤ rule
child_from_two form c rule (ChildFault.relax_ng h) = omega arith
child_from_two form c rule (ChildFault.left_out h) = omega arith
child_from_two form c rule (ChildFault.unknown u r l n p) = omega arith

-- what a child breaks that is not left out
child_unknown : (form : Form) (c : Tree) (rule : ℕ) → is_relax_ng c ≡ false → is_one_of form.left_out_children c ≡ false → ChildFault form c rule
    → ((form.closed || is_tei c) ≡ true) × (child_in form c ≡ None) × ((is_passed_over c || is_one_of form.passed_over c) ≡ false) × (rule ≡ 3)
child_unknown form c rule r l (ChildFault.relax_ng h) = absurd (both_ways (is_relax_ng c) r h)
child_unknown form c rule r l (ChildFault.left_out h) = absurd (both_ways (is_one_of form.left_out_children c) l h)
child_unknown form c rule r l (ChildFault.unknown u _ _ n p) = (u, n, p, refl)

-- a child that is left out
pub child_left_out : (form : Form) (c : Tree) → (is_relax_ng c ≡ true) ⊎ (is_one_of form.left_out_children c ≡ true) → IsLeast (ChildFault form c) (Some 2)
child_left_out form c h = (⊎_elim (λ r. ChildFault.relax_ng r) (λ l. ChildFault.left_out l) h, child_from_two form c)

-- one that is not, and is neither named nor passed over
pub child_least : (form : Form) (c : Tree) → is_relax_ng c ≡ false → is_one_of form.left_out_children c ≡ false → child_in form c ≡ None
    → (is_passed_over c || is_one_of form.passed_over c) ≡ false → IsLeast (ChildFault form c) (if form.closed || is_tei c then Some 3 else None)
child_least form c r l n p =
    least_if (ChildFault form c) (form.closed || is_tei c) 3 (λ u. ChildFault.unknown u r l n p) (λ rule h. let k = child_unknown form c rule r l h in (k.0, k.3))

-- what an element breaks beside its children, by kinds
abbrev Own : Form → List Bind → Tree → ℕ → Type 0
Own form binds t rule = Among (λ a. AttributeFault a t) form.attributes rule ⊎ ((StandsOnce (λ l. is_some (given t l) ≡ true) form.left_out × (rule ≡ 2)) ⊎ Among (DemandFault binds t) form.demands rule)

own_from : (form : Form) (binds : List Bind) (t : Tree) (rule : ℕ) → Own form binds t rule → OwnFault form binds t rule
own_from form binds t rule (inl (a, s, f)) = OwnFault.attribute a s f
own_from form binds t rule (inr (inl ((l, s, h), e))) = subst (OwnFault form binds t) (sym e) (OwnFault.left_out l s h)
own_from form binds t rule (inr (inr (d, s, f))) = OwnFault.demand d s f

own_kinds : (form : Form) (binds : List Bind) (t : Tree) (rule : ℕ) → OwnFault form binds t rule → Own form binds t rule
own_kinds form binds t rule (OwnFault.attribute a s f) = inl (a, s, f)
own_kinds form binds t rule (OwnFault.left_out l s h) = inr (inl ((l, s, h), refl))
own_kinds form binds t rule (OwnFault.demand d s f) = inr (inr (d, s, f))

-- the least that an element breaks beside its children
pub own_least : (form : Form) (binds : List Bind) (t : Tree) (a b : Option ℕ) → IsLeast (Among (λ x. AttributeFault x t) form.attributes) a → IsLeast (Among (DemandFault binds t) form.demands) b
    → IsLeast (OwnFault form binds t) (lesser_rule a (lesser_rule (if list_any (λ l. is_some (given t l)) form.left_out then Some 2 else None) b))
own_least form binds t a b attributes demands =
    least_same (Own form binds t) (OwnFault form binds t) _ (own_from form binds t) (own_kinds form binds t)
    (least_or _ _ _ _ attributes (least_or _ _ _ _ (least_any (λ l. is_some (given t l)) form.left_out 2) demands))

-- a child that stands twice
abbrev pub is_twice : Tree → Element → Bool
is_twice t e = nat_le 2 (count_by (is_one_of ((form_at e).name ∷ [])) (children_of t))

from_two : (n : ℕ) → 2 ≤ n → nat_le 2 n ≡ true
from_two n h = ⊎_elim (λ e. e) (λ e. absurd (omega (arith, leb-false 2 n e))) (cases_Bool (leb 2 n))

-- a child that may stand there breaks nothing by standing there
pub named_placed : (parent kind : Element) (child : Tree) (rule : ℕ) → IsChild parent kind child → ChildFault (form_at parent) child rule → ⊥
named_placed parent kind child rule is (ChildFault.relax_ng h) = both_ways (is_relax_ng child) (named_not_relax (form_at kind).name child (child_named parent kind child is)) h
named_placed parent kind child rule is (ChildFault.left_out h) =
    both_ways (is_one_of (form_at parent).left_out_children child) (never_left_out parent kind child is) h
named_placed parent kind child rule is (ChildFault.unknown u r l none p) = let no : None ≡ Some kind = sym none ∙ is in cc

-- what a child breaks that may stand there
pub named_least : (parent kind : Element) (left : ℕ) (binds : List Bind) (child : Tree) (o : Option ℕ) → IsChild parent kind child → IsLeast (DeepFault kind left binds child) o
    → IsLeast (PlacedFault parent left binds child) o
named_least parent kind left binds child o is = least_same (DeepFault kind left binds child) (PlacedFault parent left binds child) o (λ rule f. inr (kind, is, f)) back
  where
    back : (rule : ℕ) → PlacedFault parent left binds child rule → DeepFault kind left binds child rule
    back rule (inl f) = absurd (named_placed parent kind child rule is f)
    back rule (inr (other, also, f)) = subst (λ k. DeepFault k left binds child rule) (same_Some _ _ (sym also ∙ is)) f

-- and what another one does
pub stray_least : (parent : Element) (left : ℕ) (binds : List Bind) (child : Tree) (o : Option ℕ) → child_in (form_at parent) child ≡ None → IsLeast (ChildFault (form_at parent) child) o
    → IsLeast (PlacedFault parent left binds child) o
stray_least parent left binds child o none = least_same (ChildFault (form_at parent) child) (PlacedFault parent left binds child) o (λ rule f. inl f) back
  where
    back : (rule : ℕ) → PlacedFault parent left binds child rule → ChildFault (form_at parent) child rule
    back rule (inl f) = f
    back rule (inr (other, also, f)) = let no : None ≡ Some other = sym none ∙ also in cc

module _ (e : Element) (left : ℕ) (around : List Bind) (t : Tree) where
  -- one level too many
  abbrev TooDeep : ℕ → Type 0
  TooDeep rule = ((is_level (form_at e) t ≡ true) × (left ≡ 0)) × (rule ≡ 2)

  abbrev Twice : ℕ → Type 0
  Twice rule = StandsOnce (λ k. is_twice t k ≡ true) (form_at e).once × (rule ≡ 4)

  abbrev Inside : ℕ → Type 0
  Inside = Among (PlacedFault e (left_inside (is_level (form_at e) t) left) (within around t)) (children_of t)

  -- what an element breaks at any depth, by kinds
  abbrev Kinds : ℕ → Type 0
  Kinds rule = (OwnFault (form_at e) (within around t) t rule ⊎ Twice rule) ⊎ (TooDeep rule ⊎ Inside rule)

  from_kinds : (rule : ℕ) → Kinds rule → DeepFault e left around t rule
  from_kinds rule (inl (inl f)) = DeepFault.itself (FormFault.own f)
  from_kinds rule (inl (inr ((k, s, h), is))) = subst (DeepFault e left around t) (sym is) (DeepFault.itself (FormFault.twice k s (leb-true 2 _ h)))
  from_kinds rule (inr (inl ((h, none), is))) = subst (DeepFault e left around t) (sym is) (DeepFault.deep h none)
  from_kinds rule (inr (inr (child, s, inl f))) = DeepFault.itself (FormFault.child child s f)
  from_kinds rule (inr (inr (child, s, inr (kind, is, f)))) = DeepFault.inside kind child s is f

  by_form : (rule : ℕ) → FormFault (form_at e) (within around t) t rule → Kinds rule
  by_form rule (FormFault.own f) = inl (inl f)
  by_form rule (FormFault.child child s f) = inr (inr (child, s, inl f))
  by_form rule (FormFault.twice k s n) = inl (inr ((k, s, from_two _ n), refl))

  kinds : (rule : ℕ) → DeepFault e left around t rule → Kinds rule
  kinds rule (DeepFault.itself f) = by_form rule f
  kinds rule (DeepFault.deep h none) = inr (inl ((h, none), refl))
  kinds rule (DeepFault.inside kind child s is f) = inr (inr (child, s, inr (kind, is, f)))

  pub deep_least : (b : Bool) (a c : Option ℕ) → (IsTrue b ↔ (is_level (form_at e) t ≡ true) × (left ≡ 0)) → IsLeast (OwnFault (form_at e) (within around t) t) a → IsLeast Inside c
      → IsLeast (DeepFault e left around t) (lesser_rule (lesser_rule a (if list_any (is_twice t) (form_at e).once then Some 4 else None)) (lesser_rule (if b then Some 2 else None) c))
  deep_least b a c tells own inner =
      least_same Kinds (DeepFault e left around t) _ from_kinds kinds
      (least_or _ _ _ _ (least_or _ _ _ _ own (least_any (is_twice t) (form_at e).once 4)) (least_or _ _ _ _ (least_if TooDeep b 2 (λ h. (tells.0 h, refl)) (λ other f. (tells.1 f.0, f.1))) inner))
