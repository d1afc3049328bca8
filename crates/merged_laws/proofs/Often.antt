-- How often something may stand, as an element says it: it is right, and read back.
use Rattle.std.proofs.Common.{◌≡◌, ◌≤◌, ℕ, if◌then◌else◌, Option, Some, None, refl, sym, ap, ap₂, subst, ◌∙◌}
use Rattle.std.specs.Prelude.{codes, decimal, unwrap_or}
use Rattle.std.proofs.lemmas.Bool.{false_from_ne_true}
use Rattle.std.proofs.lemmas.Option.{same_Some}
use Rattle.odd_text.specs.Same.{is_same}
use Rattle.odd_tree.specs.Elements.{given}
use Rattle.odd_tree.specs.declared.tree.Tree.{Tree, out-Tree}
use Rattle.rng_types.specs.Bounds.{IsFormedBounds}
use Rattle.rng_types.specs.declared.bounds.Bounds.{Bounds}
use Rattle.odd_forms.specs.Form.{number_told}
use Rattle.odd_forms.specs.Form as kinds
use Rattle.odd_content.specs.Occurrence.{bounds_in, maximum_told}
use Rattle.odd_emit.specs.Saying.{a_greatest, greatest_written}
use Rattle.merged_laws.proofs.Values.{IsFormedFor, IsSmall, no_word, number_back}

-- the greatest number, where there is one, is of few digits
abbrev IsSmallGreatest : Option ℕ → Type 0
IsSmallGreatest m = (max : ℕ) → m ≡ Some max → IsSmall max

pub greatest_formed : (m : Option ℕ) → IsSmallGreatest m → IsFormedFor kinds.count (a_greatest m)
greatest_formed None h = tt
greatest_formed (Some n) h = h n refl

-- it is told
greatest_told : (m : Option ℕ) → IsSmallGreatest m → number_told (Some (greatest_written m)) ≡ m
greatest_told None h = refl
greatest_told (Some n) h = number_back n (h n refl)

maximum_back : (m : Option ℕ) → IsSmallGreatest m → maximum_told (Some (greatest_written m)) ≡ m
maximum_back None h = refl
maximum_back (Some n) h =
    ap (λ b. if b then None else Some (unwrap_or (number_told (Some (decimal n))) 1)) (false_from_ne_true (is_same (decimal n) (codes "unbounded")) (no_word n (h n refl)))
    ∙ ap (λ o. Some (unwrap_or o 1)) (number_back n (h n refl))

-- the numbers are in order
pub bounds_in_order : (b : Bounds) → IsFormedBounds b → (m n : ℕ) → number_told (Some (decimal b.min)) ≡ Some m → number_told (Some (greatest_written b.max)) ≡ Some n → m ≤ n
bounds_in_order b f m n least greatest =
    let is : b.min ≡ m = same_Some _ _ (sym (number_back b.min f.least) ∙ least) in subst (λ x. x ≤ n) is (f.ordered n (sym (greatest_told b.max f.greatest) ∙ greatest))

-- an element that says them gives them
pub bounds_back : (t : Tree) (b : Bounds) → IsFormedBounds b → given t (codes "minOccurs") ≡ Some (decimal b.min) → given t (codes "maxOccurs") ≡ Some (greatest_written b.max)
    → bounds_in (out-Tree t).attrs ≡ b
bounds_back t b f least greatest =
    let made : ℕ → Option ℕ → Bounds = λ min max. record { min = min; max = max } in
    ap₂ made (ap (λ o. unwrap_or (number_told o) 1) least ∙ ap (λ o. unwrap_or o 1) (number_back b.min f.least)) (ap maximum_told greatest ∙ maximum_back b.max f.greatest)
