-- What stands in a list after those before it, and which of two items stands before the other.
use Rattle.std.proofs.Common.{◌≡◌, ◌↔◌, ◌<◌, ◌+◌, ℕ, List, [], ◌∷◌, ◌++◌, drop, get_or, length, take, ◌⊎◌, inl, inr, ⊎_elim, refl, sym, ap, ap₂, subst, ◌∙◌, append_assoc}
use Rattle.std.proofs.lemmas.List.{take-append-drop}
use Rattle.odd_text.proofs.InList.{StandsOnce, begins, ends, nothing_stands, once_push, stands_around}
use Rattle.odd_text.proofs.InList as standing
use Rattle.odd_text.specs.Standing.{StandsIn}

-- what a list has at a place stands in it
pub stands_at : {A : Type 0} (xs : List A) (i : ℕ) (x : A) → i < length xs → x ≡ get_or xs i x → StandsIn xs x
stands_at xs i x within is = (take i xs, drop (i + 1) xs, sym (take-append-drop i xs) ∙ ap (λ ys. take i xs ++ ys) (begins xs i x within is))

-- with one item more in a list one is such where one was before, or where it is
pub once_more : {A : Type 0} (Is : A → Type 0) (xs : List A) (i : ℕ) (x : A) → i < length xs → x ≡ get_or xs i x → StandsOnce Is (take (i + 1) xs) ↔ (StandsOnce Is (take i xs) ⊎ Is x)
once_more Is xs i x within is = subst (λ ys. StandsOnce Is ys ↔ (StandsOnce Is (take i xs) ⊎ Is x)) (sym (ends xs i x within is)) (once_push Is (take i xs) x)

-- somewhere in a list stands what is such after those before it
pub record StandsWhere {A : Type 0} (Is : List A → A → Type 0) (xs : List A) : Type 0 where
  pub before : List A
  pub item : A
  pub after : List A
  pub parts : xs ≡ before ++ item ∷ after
  pub is : Is before item

-- nothing does in an empty list
pub nowhere : {A : Type 0} (Is : List A → A → Type 0) → StandsWhere Is [] → ⊥
nowhere Is s = nothing_stands s.item (s.before, s.after, s.parts)

-- with one item more something does where it did before, or where that is such after all others
pub where_push : {A : Type 0} (Is : List A → A → Type 0) (xs : List A) (x : A) → StandsWhere Is (xs ++ x ∷ []) ↔ (StandsWhere Is xs ⊎ Is xs x)
where_push {A} Is xs x = (there, λ f. ⊎_elim earlier last f)
  where
    there : StandsWhere Is (xs ++ x ∷ []) → StandsWhere Is xs ⊎ Is xs x
    there s = elim (stands_around xs x [] s.before s.item s.after s.parts) [
      | standing.before c h ↦ inl (record { before = s.before; item = s.item; after = c; parts = h; is = s.is })
      | standing.here h e ↦ inr (subst (λ ys. Is ys x) (sym h) (subst (Is s.before) (sym e) s.is))
      | standing.after c h ↦ absurd (nothing_stands s.item (c, s.after, h))
    ]

    earlier : StandsWhere Is xs → StandsWhere Is (xs ++ x ∷ [])
    earlier s = record {
      before = s.before;
      item = s.item;
      after = s.after ++ x ∷ [];
      parts = ap (λ ys. ys ++ x ∷ []) s.parts ∙ append_assoc s.before (s.item ∷ s.after) (x ∷ []);
      is = s.is;
    }

    last : Is xs x → StandsWhere Is (xs ++ x ∷ [])
    last is = record { before = xs; item = x; after = []; parts = refl; is = is }

-- of two items of a list the second stands before the first, or both are one, or it stands after it
pub data Order {A : Type 0} (a : List A) (x : A) (b c : List A) (y : A) (d : List A) : Type 0 where
  earlier : (r : List A) → a ≡ c ++ y ∷ r → d ≡ r ++ x ∷ b → Order a x b c y d
  same : a ≡ c → x ≡ y → b ≡ d → Order a x b c y d
  later : (r : List A) → c ≡ a ++ x ∷ r → b ≡ r ++ y ∷ d → Order a x b c y d

-- and so it is
pub order : {A : Type 0} (a : List A) (x : A) (b c : List A) (y : A) (d : List A) → a ++ x ∷ b ≡ c ++ y ∷ d → Order a x b c y d
order [] x b [] y d e =
    let head : x ≡ y = cc in
    let tail : b ≡ d = cc in
    same refl head tail
order [] x b (z ∷ c) y d e =
    let head : z ≡ x = cc in
    let tail : b ≡ c ++ y ∷ d = cc in
    later c (ap (λ w. w ∷ c) head) tail
order (z ∷ a) x b [] y d e =
    let head : z ≡ y = cc in
    let tail : d ≡ a ++ x ∷ b = cc in
    earlier a (ap (λ w. w ∷ a) head) tail
order (z ∷ a) x b (w ∷ c) y d e =
    let head : z ≡ w = cc in
    let tail : a ++ x ∷ b ≡ c ++ y ∷ d = cc in
    elim (order a x b c y d tail) [
      | earlier r h k ↦ earlier r (ap₂ (λ v vs. v ∷ vs) head h) k
      | same h i k ↦ same (ap₂ (λ v vs. v ∷ vs) head h) i k
      | later r h k ↦ later r (ap₂ (λ v vs. v ∷ vs) (sym head) h) k
    ]
