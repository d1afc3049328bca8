-- Lists of offers: what stands in them, and what tests of them tell.
use Rattle.std.proofs.Common.{◌≡◌, ◌≤◌, ◌<◌, length, get_or, suc, take, drop, arith, ◌⊎◌, ◌↔◌, inl, inr, ⊎_elim, Bool, true, false, not, ◌||◌, ℕ, List, [], ◌∷◌, ◌++◌, IsTrue, refl, sym, ap, subst, ◌∙◌}
use Rattle.std.proofs.lemmas.List.Elements.{Contains-append_cases, Contains-append_left, Contains-append_right}
use Rattle.std.proofs.lemmas.List.{take-append-drop}
use Rattle.std.specs.List.{list_any}
use Rattle.odd_text.specs.Standing.{StandsIn}
use Rattle.odd_text.proofs.InList.{contained, first_or_later, nothing_stands, standing, stands_first, stands_later}
use Rattle.odd_offers.specs.Same.{Test}

-- what stands in a list and a list after it stands in one of them
pub stands_either : {A : Type 0} (xs ys : List A) (x : A) → StandsIn (xs ++ ys) x → StandsIn xs x ⊎ StandsIn ys x
stands_either xs ys x s = elim (Contains-append_cases xs ys x (contained (xs ++ ys) x s)) [ inl h ↦ inl (standing xs x h) | inr h ↦ inr (standing ys x h) ]

-- what stands in the first of two lists stands in both
pub stands_left : {A : Type 0} (xs ys : List A) (x : A) → StandsIn xs x → StandsIn (xs ++ ys) x
stands_left xs ys x s = standing (xs ++ ys) x (Contains-append_left xs ys x (contained xs x s))

-- and so does what stands in the second
pub stands_right : {A : Type 0} (xs ys : List A) (x : A) → StandsIn ys x → StandsIn (xs ++ ys) x
stands_right xs ys x s = standing (xs ++ ys) x (Contains-append_right xs ys x (contained ys x s))

-- an answer that is true just where two values are one is that of a test
pub told : {A : Type 0} (t : Test A) (b : Bool) (x y : A) → (IsTrue b ↔ (x ≡ y)) → b ≡ t.same x y
told t true x y h = sym (subst (λ z. t.same x z ≡ true) (h.0 refl) (t.itself x))
told t false x y h =
    elim (t.same x y) as (λ b. t.same x y ≡ b → false ≡ b) [
      | true ↦ λ e. h.1 (t.exact x y e)
      | false ↦ λ e. refl
    ] refl

-- where some item passes there is one, and the other way round
pub any_stands : {A : Type 0} (p : A → Bool) (xs : List A) → list_any p xs ≡ true → (x : A) × StandsIn xs x × (p x ≡ true)
any_stands p [] h = cc
any_stands {A = A} p (x ∷ xs) h =
    elim (p x) as (λ b. p x ≡ b → (b || list_any p xs) ≡ true → (y : A) × StandsIn (x ∷ xs) y × (p y ≡ true)) [
      | true ↦ λ e k. (x, stands_first x xs, e)
      | false ↦ λ e k. let r = any_stands p xs k in (r.0, stands_later x r.0 xs r.1, r.2)
    ] refl h

-- an item that passes
pub stands_any : {A : Type 0} (p : A → Bool) (xs : List A) (x : A) → StandsIn xs x → p x ≡ true → list_any p xs ≡ true
stands_any p [] x m h = absurd (nothing_stands x m)
stands_any p (y ∷ xs) x m h =
    ⊎_elim (λ e. ap (λ b. b || list_any p xs) (ap p (sym e) ∙ h)) (λ later. elim (p y) as (λ b. (b || list_any p xs) ≡ true) [ true ↦ refl | false ↦ stands_any p xs x later h ])
    (first_or_later y x xs m)

-- what is not so is false
pub not_true : (b : Bool) → not b ≡ true → b ≡ false
not_true true h = cc
not_true false h = refl

-- a list of one item is this one
pub one_item : {A : Type 0} (xs : List A) (x : A) → 1 ≤ length xs → length xs < 2 → x ≡ get_or xs 0 x → xs ≡ x ∷ []
one_item [] x least below e = absurd (none least)
  where
    none : 1 ≤ 0 → ⊥
    none h = omega arith
one_item (y ∷ []) x least below e = ap (λ z. z ∷ []) (sym e)
one_item (y ∷ z ∷ xs) x least below e = absurd (too_long (length xs) below)
  where
    too_long : (n : ℕ) → suc (suc n) < 2 → ⊥
    too_long n h = omega arith

-- a list cut at a place is its two parts
pub cut_apart : {A : Type 0} (at : ℕ) (xs front back : List A) → front ≡ take at xs → back ≡ drop at xs → xs ≡ front ++ back
cut_apart at xs front back f b = sym (take-append-drop at xs) ∙ ap (λ ys. ys ++ drop at xs) (sym f) ∙ ap (λ ys. front ++ ys) (sym b)
