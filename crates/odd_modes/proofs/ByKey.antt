-- Declarations by their keys, which a stable sort puts in rising order.
use Rattle.std.proofs.Common.{◌≡◌, ℕ, suc, ◌+◌, ◌<◌, Bool, true, false, if◌then◌else◌, List, [], ◌∷◌, ◌++◌, Option, Some, None, filter, get_or, length, map, take, refl, sym, ap, subst, ◌∙◌, not, ◌&&◌, arith, Bor}
use Rattle.std.proofs.lemmas.List.{append-nil, map-append}
use Rattle.std.proofs.lemmas.List.Elements.{All-head, All-push, All-tail}
use Rattle.std.specs.List.{All}
use Rattle.std.specs.List.Sorted.{IsSorted, IsStable, ties}
use Rattle.std.specs.Option.{option_or}
use Rattle.std.specs.Ordering.{eq_by_cmp, is_eq, is_lt, ordering_reverse}
use Rattle.std.specs.declared.cmp.Ordering.{Ordering}
use Rattle.std.specs.declared.cmp.Ordering.TheVariants.{Less, Equal, Greater}
use Rattle.odd_text.specs.Key.{key_cmp}
use Rattle.odd_text.specs.KeyOrder.{key_exact, key_total}
use Rattle.odd_text.specs.declared.key.Key.{Key}
use Rattle.odd_text.specs.Keyed.{key_of, keyed_cmp}
use Rattle.odd_text.specs.declared.keyed.Keyed.{Keyed}
use Rattle.odd_text.proofs.InList.{ends}
use Rattle.odd_library.specs.declared.odd.Entry.{Entry}
use Rattle.odd_library.specs.declared.odd.Entry.TheVariants as entry
use Rattle.odd_library.specs.declared.spec.Spec.{Spec}
use Rattle.std.proofs.lemmas.Map.Views.{tells_apart}
use Rattle.odd_modes.specs.Layering.{AreKeyed, AreRising, last_of, specs_of}
use Rattle.odd_modes.proofs.SpecAt.{last_alone}

-- the declarations among items with one more
specs_more : (items : List Entry) (e : Entry) → specs_of (items ++ e ∷ []) ≡ specs_of items ++ specs_of (e ∷ [])
specs_more [] e = refl
specs_more (entry.Module at name p ∷ rest) e = specs_more rest e
specs_more (entry.Take at taken ∷ rest) e = specs_more rest e
specs_more (entry.Spec at s ∷ rest) e = ap (λ ss. s ∷ ss) (specs_more rest e)

no_more : (e : Entry) → ((at : ℕ) (spec : Spec) → e ≡ entry.Spec at spec → ⊥) → specs_of (e ∷ []) ≡ []
no_more (entry.Module at name p) none = refl
no_more (entry.Take at taken) none = refl
no_more (entry.Spec at spec) none = absurd (none at spec refl)

-- the declarations by their keys, with one item more
module _ (items : List Entry) (i : ℕ) (e : Entry) (within : i < length items) (is : e ≡ get_or items i e) (keyed : List (Keyed (Bor Spec))) (so_far : AreKeyed (specs_of (take i items)) keyed) where
  one_more : specs_of (take (i + 1) items) ≡ specs_of (take i items) ++ specs_of (e ∷ [])
  one_more = ap specs_of (ends items i e within is) ∙ specs_more (take i items) e

  -- it is a declaration
  pub keyed_more : (at : ℕ) (k : Keyed (Bor Spec)) → e ≡ entry.Spec at k.value.now → key_of k ≡ k.value.now.key → AreKeyed (specs_of (take (i + 1) items)) (keyed ++ k ∷ [])
  keyed_more at k one own = (
    map-append (λ j. j.value.now) keyed (k ∷ []) ∙ ap (λ ss. ss ++ k.value.now ∷ []) so_far.0 ∙ sym (one_more ∙ ap (λ x. specs_of (take i items) ++ specs_of (x ∷ [])) one),
    All-push (λ j. key_of j ≡ j.value.now.key) keyed k so_far.1 own,
  )

  -- or none
  pub keyed_passed : ((at : ℕ) (spec : Spec) → e ≡ entry.Spec at spec → ⊥) → AreKeyed (specs_of (take (i + 1) items)) keyed
  keyed_passed none = (so_far.0 ∙ sym (one_more ∙ ap (λ ss. specs_of (take i items) ++ ss) (no_more e none) ∙ append-nil (specs_of (take i items))), so_far.1)

abbrev pub values : List (Keyed (Bor Spec)) → List Spec
values keyed = map (λ k. k.value.now) keyed

-- it has its declaration's key
abbrev pub IsOwn : Keyed (Bor Spec) → Type 0
IsOwn k = key_of k ≡ k.value.now.key

-- each has
abbrev pub AreOwn : List (Keyed (Bor Spec)) → Type 0
AreOwn keyed = All IsOwn keyed

-- what follows the first of sorted values is sorted
sorted_rest : (k : Keyed (Bor Spec)) (rest : List (Keyed (Bor Spec))) → IsSorted keyed_cmp (k ∷ rest) → IsSorted keyed_cmp rest
sorted_rest k rest h j d low high =
    let next : suc j + 1 ≡ suc (j + 1) = omega arith in
    subst (λ n. is_lt (keyed_cmp (get_or (k ∷ rest) n d) (get_or rest j d)) ≡ false) next (h (suc j) d (omega arith) (omega arith))

-- sorted by their keys declarations rise
pub values_rise : (keyed : List (Keyed (Bor Spec))) → AreOwn keyed → IsSorted keyed_cmp keyed → AreRising (values keyed)
values_rise [] own h = tt
values_rise (k ∷ []) own h = tt
values_rise (k ∷ l ∷ rest) own h =
    let first : is_lt (key_cmp (key_of l) (key_of k)) ≡ false = h 0 k (omega arith) (omega arith) in
    let later : AreOwn (l ∷ rest) = All-tail IsOwn k (l ∷ rest) own in (
      ap (λ x. is_lt (key_cmp x k.value.now.key)) (sym (All-head IsOwn l rest later)) ∙ ap (λ x. is_lt (key_cmp (key_of l) x)) (sym (All-head IsOwn k (l ∷ rest) own)) ∙ first,
      values_rise (l ∷ rest) later (sorted_rest k (l ∷ rest) h),
    )

-- two tie where they have one key
neither : (r s : Ordering) → r ≡ ordering_reverse s → (not (is_lt s) && not (is_lt r)) ≡ is_eq s
neither r Less e = refl
neither r Equal e = rw e refl
neither r Greater e = rw e refl

tie_by_key : (x k : Keyed (Bor Spec)) → ties (λ a b. is_lt (keyed_cmp a b)) x k ≡ eq_by_cmp key_cmp (key_of x) (key_of k)
tie_by_key x k = neither (keyed_cmp k x) (keyed_cmp x k) (key_total.antisymm (key_of k) (key_of x))

-- the last declaration for a key is the last of those that tie with one that has it
last_kept : (x : Keyed (Bor Spec)) (keyed : List (Keyed (Bor Spec))) → AreOwn keyed → last_of (values keyed) (key_of x) ≡ last_of (values (filter (ties (λ a b. is_lt (keyed_cmp a b)) x) keyed)) (key_of x)
last_kept x [] own = refl
last_kept x (k ∷ rest) own =
    ap (λ o. option_or o (if eq_by_cmp key_cmp (key_of x) k.value.now.key then Some k.value.now else None)) (last_kept x rest (All-tail IsOwn k rest own))
    ∙ by_tie (eq_by_cmp key_cmp (key_of x) (key_of k)) refl
  where
    kept : List (Keyed (Bor Spec))
    kept = filter (ties (λ a b. is_lt (keyed_cmp a b)) x) rest

    by_tie : (b : Bool) → eq_by_cmp key_cmp (key_of x) (key_of k) ≡ b
        → option_or (last_of (values kept) (key_of x)) (if eq_by_cmp key_cmp (key_of x) k.value.now.key then Some k.value.now else None)
        ≡ last_of (values (filter (ties (λ a b. is_lt (keyed_cmp a b)) x) (k ∷ rest))) (key_of x)
    by_tie true e = sym (ap (λ b. last_of (values (if b then k ∷ kept else kept)) (key_of x)) (tie_by_key x k ∙ e))
    by_tie false e =
        ap (λ b. option_or (last_of (values kept) (key_of x)) (if b then Some k.value.now else None)) (ap (λ y. eq_by_cmp key_cmp (key_of x) y) (sym (All-head IsOwn k rest own)) ∙ e)
        ∙ sym (last_alone (last_of (values kept) (key_of x)))
        ∙ sym (ap (λ b. last_of (values (if b then k ∷ kept else kept)) (key_of x)) (tie_by_key x k ∙ e))

-- where there is one for a key, one has it
has_key : (keyed : List (Keyed (Bor Spec))) (key : Key) (s : Spec) → AreOwn keyed → last_of (values keyed) key ≡ Some s → (x : Keyed (Bor Spec)) × (key_of x ≡ key)
has_key [] key s own e = cc
has_key (k ∷ rest) key s own e = by_tie (has_key rest key s (All-tail IsOwn k rest own)) (eq_by_cmp key_cmp key k.value.now.key) refl
  where
    by_tie : (last_of (values rest) key ≡ Some s → (x : Keyed (Bor Spec)) × (key_of x ≡ key)) → (b : Bool) → eq_by_cmp key_cmp key k.value.now.key ≡ b → (x : Keyed (Bor Spec)) × (key_of x ≡ key)
    by_tie later true t = (k, All-head IsOwn k rest own ∙ sym (tells_apart key_exact key k.value.now.key t))
    by_tie later false t = later (last_alone (last_of (values rest) key) ∙ sym (ap (λ b. option_or (last_of (values rest) key) (if b then Some k.value.now else None)) t) ∙ e)

-- a stable sort leaves the last for each key
pub last_stays : (some others : List (Keyed (Bor Spec))) → AreOwn some → AreOwn others → IsStable keyed_cmp some others → (key : Key) → last_of (values others) key ≡ last_of (values some) key
last_stays some others own also stable key = by_both (last_of (values some) key) (last_of (values others) key) refl refl
  where
    by_key : (x : Keyed (Bor Spec)) → key_of x ≡ key → last_of (values others) key ≡ last_of (values some) key
    by_key x is =
        ap (last_of (values others)) (sym is) ∙ last_kept x others also ∙ ap (λ ks. last_of (values ks) (key_of x)) (stable x) ∙ sym (last_kept x some own)
        ∙ ap (last_of (values some)) is

    by_both : (a b : Option Spec) → last_of (values some) key ≡ a → last_of (values others) key ≡ b → last_of (values others) key ≡ last_of (values some) key
    by_both None None e f = f ∙ sym e
    by_both (Some s) b e f = let x = has_key some key s own e in by_key x.0 x.1
    by_both None (Some s) e f = let x = has_key others key s also f in by_key x.0 x.1
