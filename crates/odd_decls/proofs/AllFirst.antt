-- The first fault of a file is the lesser of those of its `schemaSpec`, its groups, its items and its references.
use Rattle.std.proofs.Common.{◌≡◌, ◌≤◌, ◌⊎◌, ℕ, List, Option, Some, None, inl, inr, ⊎_elim, refl, sym, subst, arith}
use Rattle.std.proofs.Math.Nat.{eq-or-lt_of_le}
use Rattle.odd_text.specs.Least.{IsLeast}
use Rattle.odd_items.specs.Search.{Found}
use Rattle.odd_library.specs.First.{IsNotAfter}
use Rattle.odd_library.specs.declared.fault.Fault.{Fault}
use Rattle.odd_tree.specs.declared.tree.Tree.{Tree}
use Rattle.odd_decls.proofs.FirstFault.{first_or, first_same, lesser_fault}
use Rattle.odd_decls.specs.Faults.{IsFirstIn}
use Rattle.odd_decls.specs.Offences.{HasIdAgain, ItemsOffend, Offends, ReferencesOffend, SchemasOffend}

-- a group that has the id of an earlier one breaks rule 4
abbrev pub GroupsOffend : Tree → ℕ → ℕ → Type 0
GroupsOffend t place rule = HasIdAgain t place × (rule ≡ 4)

-- where there is no such group there is no such fault
pub no_group : (t : Tree) (o : Option Fault) → IsLeast (HasIdAgain t) None → o ≡ None → IsFirstIn (GroupsOffend t) o
no_group t o none e = subst (IsFirstIn (GroupsOffend t)) (sym e) (λ place rule f. none place f.0)

-- and the first gives the first
pub group_first : (t : Tree) (at : ℕ) (fault : Fault) → IsLeast (HasIdAgain t) (Some at) → fault ≡ record { at = at; rule = 4 } → IsFirstIn (GroupsOffend t) (Some fault)
group_first t at fault least e =
    subst (λ f. IsFirstIn (GroupsOffend t) (Some f)) (sym e) (record { is_one = (least.0, refl); first = λ place rule f. not_after place rule (least.1 place f.0) f.1 })
  where
    not_after : (place rule : ℕ) → at ≤ place → rule ≡ 4 → IsNotAfter at 4 place rule
    not_after place rule low four = ⊎_elim (λ same. inr (same, omega (arith, four))) (λ less. inl less) (eq-or-lt_of_le low)

-- what the parts of a file break is what it breaks
pub all_first : (t : Tree) (schemas : List Found) (a b c d : Option Fault) → IsFirstIn (SchemasOffend schemas) a → IsFirstIn (GroupsOffend t) b → IsFirstIn (ItemsOffend t schemas) c
    → IsFirstIn (ReferencesOffend t schemas) d → IsFirstIn (Offends t schemas) (lesser_fault (lesser_fault a b) (lesser_fault c d))
all_first t schemas a b c d of_schemas of_groups of_items of_references =
    first_same (λ place rule. (SchemasOffend schemas place rule ⊎ GroupsOffend t place rule) ⊎ (ItemsOffend t schemas place rule ⊎ ReferencesOffend t schemas place rule)) (Offends t schemas)
    (lesser_fault (lesser_fault a b) (lesser_fault c d)) into back
    (first_or (λ place rule. SchemasOffend schemas place rule ⊎ GroupsOffend t place rule) (λ place rule. ItemsOffend t schemas place rule ⊎ ReferencesOffend t schemas place rule) (lesser_fault a b)
    (lesser_fault c d) (first_or (SchemasOffend schemas) (GroupsOffend t) a b of_schemas of_groups) (first_or (ItemsOffend t schemas) (ReferencesOffend t schemas) c d of_items of_references))
  where
    into : (place rule : ℕ) → (SchemasOffend schemas place rule ⊎ GroupsOffend t place rule) ⊎ (ItemsOffend t schemas place rule ⊎ ReferencesOffend t schemas place rule)
        → Offends t schemas place rule
    into place rule f =
        ⊎_elim (λ g. ⊎_elim (λ s. Offends.schema s) (λ h. subst (Offends t schemas place) (sym h.1) (Offends.group h.0)) g)
        (λ g. ⊎_elim (λ i. Offends.item i) (λ r. Offends.reference r) g) f

    back : (place rule : ℕ) → Offends t schemas place rule
        → (SchemasOffend schemas place rule ⊎ GroupsOffend t place rule) ⊎ (ItemsOffend t schemas place rule ⊎ ReferencesOffend t schemas place rule)
    back place rule (Offends.schema s) = inl (inl s)
    back place rule (Offends.group g) = inl (inr (g, refl))
    back place rule (Offends.item i) = inr (inl i)
    back place rule (Offends.reference r) = inr (inr r)
