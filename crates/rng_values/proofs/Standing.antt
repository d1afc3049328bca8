-- What stands in a list: once, twice, and first of what passes a test.
use Rattle.std.proofs.Common.{◌≡◌, ◌≤◌, ◌+◌, ℕ, Bool, true, false, cond, List, [], ◌∷◌, ◌++◌, Some, length, ◌⊎◌, inl, inr, ⊎_elim, refl, sym, ◌∙◌, ap, subst, arith, suc, zero, Any}
use Rattle.std.proofs.lemmas.Bool.{cases_Bool}
use Rattle.std.proofs.lemmas.List.Elements.{Contains-append_left, Contains-append_right, Contains-append_cases}
use Rattle.std.specs.List.{Contains, filter, find, flat_map}

-- the first of a list stands in it
pub here : {A : Type 0} (x : A) (xs : List A) → Contains (x ∷ xs) x
here x xs = (0, omega arith, refl)

-- and so does what stands in the rest
pub later : {A : Type 0} (x y : A) (xs : List A) → Contains xs y → Contains (x ∷ xs) y
later x y xs h = Contains-append_right (x ∷ []) xs y h

-- nothing stands in an empty list
pub nowhere : {A : Type 0} (x : A) → Contains [] x → ⊥
nowhere x h = omega (arith, h.1)

-- what stands in a list is its first, or stands in the rest
pub here_or_later : {A : Type 0} (x y : A) (xs : List A) → Contains (x ∷ xs) y → (x ≡ y) ⊎ Contains xs y
here_or_later x y xs (zero, h, e) = inl e
here_or_later x y xs (suc k, h, e) = inr (k, omega arith, e)

-- where an item that stands there is such, one is
pub one_of : {A : Type 0} (P : A → Type 0) (xs : List A) (x : A) → Contains xs x → P x → Any P xs
one_of P xs x c p = (c.0, x, c.1, c.2, p)

-- one item that passes a test, with those around it
pub record Once {A : Type 0} (p : A → Bool) (xs : List A) : Type 0 where
  pub before : List A
  pub item : A
  pub after : List A
  pub parted : xs ≡ before ++ item ∷ after
  pub passes : p item ≡ true

-- where one is kept, one passes
pub once : {A : Type 0} (p : A → Bool) (xs : List A) → 1 ≤ length (filter p xs) → Once p xs
once p [] h = absurd (omega arith)
once p (x ∷ xs) h =
    ⊎_elim (λ e. record { before = []; item = x; after = xs; parted = refl; passes = e })
    (λ e.
    let o = once p xs (subst (λ b. 1 ≤ length (cond b (x ∷ filter p xs) (filter p xs))) e h) in
    record { before = x ∷ o.before; item = o.item; after = o.after; parted = ap (λ ys. x ∷ ys) o.parted; passes = o.passes })
    (cases_Bool (p x))

-- two items that do
pub record Twice {A : Type 0} (p : A → Bool) (xs : List A) : Type 0 where
  pub before : List A
  pub one : A
  pub between : List A
  pub other : A
  pub after : List A
  pub parted : xs ≡ before ++ one ∷ (between ++ other ∷ after)
  pub one_passes : p one ≡ true
  pub other_passes : p other ≡ true

-- where two are kept, two pass
pub twice : {A : Type 0} (p : A → Bool) (xs : List A) → 2 ≤ length (filter p xs) → Twice p xs
twice p [] h = absurd (omega arith)
twice p (x ∷ xs) h =
    ⊎_elim
    (λ e.
    let k = subst (λ b. 2 ≤ length (cond b (x ∷ filter p xs) (filter p xs))) e h in
    let o = once p xs (omega (arith, k)) in
    record { before = []; one = x; between = o.before; other = o.item; after = o.after; parted = ap (λ ys. x ∷ ys) o.parted; one_passes = e; other_passes = o.passes })
    (λ e.
    let o = twice p xs (subst (λ b. 2 ≤ length (cond b (x ∷ filter p xs) (filter p xs))) e h) in record {
      before = x ∷ o.before;
      one = o.one;
      between = o.between;
      other = o.other;
      after = o.after;
      parted = ap (λ ys. x ∷ ys) o.parted;
      one_passes = o.one_passes;
      other_passes = o.other_passes;
    })
    (cases_Bool (p x))

-- an item that passes counts, wherever it stands
counts : {A : Type 0} (p : A → Bool) (n : ℕ) (before : List A) (x : A) (after : List A) → p x ≡ true → n ≤ length (filter p after) → n + 1 ≤ length (filter p (before ++ x ∷ after))
counts p n [] x after e h = subst (λ b. n + 1 ≤ length (cond b (x ∷ filter p after) (filter p after))) (sym e) (omega arith)
counts p n (y ∷ before) x after e h =
    let k = counts p n before x after e h in
    elim (p y) as (λ b. n + 1 ≤ length (cond b (y ∷ filter p (before ++ x ∷ after)) (filter p (before ++ x ∷ after)))) [ true ↦ omega (arith, k) | false ↦ k ]

-- and the other way round
pub counted : {A : Type 0} (p : A → Bool) (xs : List A) → Twice p xs → 2 ≤ length (filter p xs)
counted p xs t =
    subst (λ ys. 2 ≤ length (filter p ys)) (sym t.parted) (counts p 1 t.before t.one _ t.one_passes (counts p 0 t.between t.other t.after t.other_passes (omega arith)))

-- an item that passes is one of those that are kept
kept : {A : Type 0} (p : A → Bool) (xs : List A) (x : A) → Contains xs x → p x ≡ true → 1 ≤ length (filter p xs)
kept p [] x c e = absurd (nowhere x c)
kept p (y ∷ xs) x c e =
    elim (p y) as (λ b. p y ≡ b → 1 ≤ length (cond b (y ∷ filter p xs) (filter p xs))) [
      | true ↦ λ h. omega arith
      | false ↦ λ h. ⊎_elim (λ same. let no : false ≡ true = sym h ∙ ap p same ∙ e in cc) (λ k. kept p xs x k e) (here_or_later y x xs c)
    ] refl

-- the only item that passes is the first that does
pub only : {A : Type 0} (p : A → Bool) (xs : List A) (x : A) → length (filter p xs) ≤ 1 → Contains xs x → p x ≡ true → find p xs ≡ Some x
only p [] x few c e = absurd (nowhere x c)
only p (y ∷ xs) x few c e =
    elim (p y) as (λ b. p y ≡ b → length (cond b (y ∷ filter p xs) (filter p xs)) ≤ 1 → cond b (Some y) (find p xs) ≡ Some x) [
      | true ↦ λ h n. ap Some (⊎_elim (λ same. same) (λ k. let one = kept p xs x k e in absurd (omega (arith, one, n))) (here_or_later y x xs c))
      | false ↦ λ h n. ⊎_elim (λ same. let no : false ≡ true = sym h ∙ ap p same ∙ e in cc) (λ k. only p xs x n k e) (here_or_later y x xs c)
    ] refl few

-- what is found passes, and stands in the list
pub found : {A : Type 0} (p : A → Bool) (xs : List A) (x : A) → find p xs ≡ Some x → (p x ≡ true) × Contains xs x
found p [] x e = cc
found p (y ∷ xs) x e =
    elim (p y) as (λ b. p y ≡ b → cond b (Some y) (find p xs) ≡ Some x → (p x ≡ true) × Contains (y ∷ xs) x) [
      | true ↦ λ h is. let same : y ≡ x = cc in (ap p (sym same) ∙ h, subst (Contains (y ∷ xs)) same (here y xs))
      | false ↦ λ h is. let f = found p xs x is in (f.0, later y x xs f.1)
    ] refl e

-- what stands in a part stands in the whole
pub part_stands : {A B : Type 0} (f : A → List B) (xs : List A) (x : A) (y : B) → Contains xs x → Contains (f x) y → Contains (flat_map f xs) y
part_stands f [] x y c h = absurd (nowhere x c)
part_stands f (z ∷ xs) x y c h =
    ⊎_elim (λ same. Contains-append_left (f z) (flat_map f xs) y (subst (λ w. Contains (f w) y) (sym same) h)) (λ k. Contains-append_right (f z) (flat_map f xs) y (part_stands f xs x y k h))
    (here_or_later z x xs c)

-- and the other way round
pub stands_part : {A B : Type 0} (f : A → List B) (xs : List A) (y : B) → Contains (flat_map f xs) y → (x : A) × Contains (f x) y
stands_part f [] y h = absurd (nowhere y h)
stands_part f (x ∷ xs) y h = ⊎_elim (λ k. (x, k)) (λ k. stands_part f xs y k) (Contains-append_cases (f x) (flat_map f xs) y h)
