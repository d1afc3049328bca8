-- What stands in a list.
use Rattle.std.proofs.Common.{◌≡◌, ◌↔◌, ℕ, ◌+◌, ◌<◌, List, [], ◌∷◌, ◌++◌, length, map, take, drop, get_or, ◌⊎◌, inl, inr, ⊎_elim, refl, sym, ap, subst, ◌∙◌, append_assoc, arith}
use Rattle.std.proofs.lemmas.List.{drop_more, take-append-drop, take_more}
use Rattle.std.proofs.lemmas.List.Elements.{Contains-append_right}
use Rattle.std.specs.List.{Contains}
use Rattle.odd_text.specs.Standing.{StandsIn}

-- the list from a place on begins with what stands there
pub begins : {X : Type 0} (xs : List X) (i : ℕ) (x : X) → i < length xs → x ≡ get_or xs i x → drop i xs ≡ x ∷ drop (i + 1) xs
begins xs i x h is = drop_more xs i x h ∙ ap (λ y. y ∷ drop (i + 1) xs) (sym is)

-- the list up to a place, and with what stands there, ends with that
pub ends : {X : Type 0} (xs : List X) (i : ℕ) (x : X) → i < length xs → x ≡ get_or xs i x → take (i + 1) xs ≡ take i xs ++ x ∷ []
ends xs i x h is = take_more xs i x h ∙ ap (λ y. take i xs ++ y ∷ []) (sym is)

-- nothing stands in an empty list
pub nothing_stands : {A : Type 0} (x : A) → StandsIn [] x → ⊥
nothing_stands {A} x s = empty s.0 s.2
  where
    empty : (a : List A) → [] ≡ a ++ x ∷ s.1 → ⊥
    empty [] e = cc
    empty (y ∷ a) e = cc

-- the first of a list stands in it
pub stands_first : {A : Type 0} (x : A) (xs : List A) → StandsIn (x ∷ xs) x
stands_first x xs = ([], xs, refl)

-- and so does what stands in the rest
pub stands_later : {A : Type 0} (x y : A) (xs : List A) → StandsIn xs y → StandsIn (x ∷ xs) y
stands_later x y xs s = (x ∷ s.0, s.1, ap (λ ys. x ∷ ys) s.2)

-- what stands in a list is its first, or stands in the rest
pub first_or_later : {A : Type 0} (x y : A) (xs : List A) → StandsIn (x ∷ xs) y → (y ≡ x) ⊎ StandsIn xs y
first_or_later x y xs ([], after, e) = inl cc
first_or_later x y xs (b ∷ before, after, e) = inr (before, after, cc)

-- the only item is what stands in a list of one
pub only_item : {A : Type 0} (x y : A) → StandsIn (x ∷ []) y → y ≡ x
only_item x y s = ⊎_elim (λ e. e) (λ later. absurd (nothing_stands y later)) (first_or_later x y [] s)

-- what stands in a list of images is the image of an item
pub stands_map : {A B : Type 0} (f : A → B) (xs : List A) (y : B) → StandsIn (map f xs) y → (x : A) × StandsIn xs x × (y ≡ f x)
stands_map f [] y s = absurd (nothing_stands y s)
stands_map f (x ∷ xs) y s =
    ⊎_elim (λ e. (x, stands_first x xs, e)) (λ later. let h = stands_map f xs y later in (h.0, stands_later x h.0 xs h.1, h.2)) (first_or_later (f x) y (map f xs) s)

-- and the image of each item stands there
pub map_stands : {A B : Type 0} (f : A → B) (xs : List A) (x : A) → StandsIn xs x → StandsIn (map f xs) (f x)
map_stands f [] x s = absurd (nothing_stands x s)
map_stands f (w ∷ xs) x s =
    ⊎_elim (λ e. subst (λ v. StandsIn (map f (w ∷ xs)) (f v)) (sym e) (stands_first (f w) (map f xs))) (λ later. stands_later (f w) (f x) (map f xs) (map_stands f xs x later))
    (first_or_later w x xs s)

-- what stands in a list is one of its items
pub contained : {A : Type 0} (xs : List A) (x : A) → StandsIn xs x → Contains xs x
contained xs x s = rw s.2 (Contains-append_right s.0 (x ∷ s.1) x (0, omega arith, refl))

-- and the other way round
pub standing : {A : Type 0} (xs : List A) (x : A) → Contains xs x → StandsIn xs x
standing xs x h =
    (take h.0 xs, drop (h.0 + 1) xs, sym (take-append-drop h.0 xs) ∙ ap (λ ys. take h.0 xs ++ ys) (begins xs h.0 x h.1 (sym h.2)))

-- where something stands in a list around a place: before it, there or after it
pub data Stands {A : Type 0} (xs : List A) (k : A) (ys a : List A) (x : A) (b : List A) : Type 0 where
  before : (c : List A) → xs ≡ a ++ x ∷ c → Stands xs k ys a x b
  here : xs ≡ a → k ≡ x → Stands xs k ys a x b
  after : (c : List A) → ys ≡ c ++ x ∷ b → Stands xs k ys a x b

-- each item stands so
pub stands_around : {A : Type 0} (xs : List A) (k : A) (ys a : List A) (x : A) (b : List A) → xs ++ k ∷ ys ≡ a ++ x ∷ b → Stands xs k ys a x b
stands_around [] k ys [] x b e = here refl cc
stands_around [] k ys (y ∷ a) x b e = after a cc
stands_around (z ∷ xs) k ys [] x b e = before xs cc
stands_around (z ∷ xs) k ys (y ∷ a) x b e =
    let head : z ≡ y = cc in
    let tail : xs ++ k ∷ ys ≡ a ++ x ∷ b = cc in
    elim (stands_around xs k ys a x b tail) [
      | before c h ↦ before c (cc (h, head))
      | here h i ↦ here (cc (h, head)) i
      | after c h ↦ after c h
    ]

-- what stands in a list with one item more
pub stands_push : {A : Type 0} (xs : List A) (k x : A) → StandsIn (xs ++ k ∷ []) x ↔ (StandsIn xs x ⊎ (k ≡ x))
stands_push {A} xs k x = (there, λ h. ⊎_elim earlier last h)
  where
    there : StandsIn (xs ++ k ∷ []) x → StandsIn xs x ⊎ (k ≡ x)
    there s = elim (stands_around xs k [] s.0 x s.1 s.2) [
      | before c h ↦ inl (s.0, c, h)
      | here h e ↦ inr e
      | after c h ↦ absurd (nothing_stands x (c, s.1, h))
    ]

    earlier : StandsIn xs x → StandsIn (xs ++ k ∷ []) x
    earlier s = (s.0, s.1 ++ k ∷ [], ap (λ ys. ys ++ k ∷ []) s.2 ∙ append_assoc s.0 (x ∷ s.1) (k ∷ []))

    last : k ≡ x → StandsIn (xs ++ k ∷ []) x
    last e = (xs, [], ap (λ y. xs ++ y ∷ []) e)

-- one of the items is such
abbrev pub StandsOnce : {A : Type 0} → (A → Type 0) → List A → Type 0
StandsOnce {A} Is items = (x : A) × StandsIn items x × Is x

-- with one item more one of them is such where one was before, or where it is
pub once_push : {A : Type 0} (Is : A → Type 0) (xs : List A) (k : A) → StandsOnce Is (xs ++ k ∷ []) ↔ (StandsOnce Is xs ⊎ Is k)
once_push Is xs k = (
  λ s. ⊎_elim (λ h. inl (s.0, h, s.2)) (λ e. inr (subst Is (sym e) s.2)) ((stands_push xs k s.0).0 s.1),
  λ h. ⊎_elim (λ s. (s.0, (stands_push xs k s.0).1 (inl s.1), s.2)) (λ is. (k, (stands_push xs k k).1 (inr refl), is)) h,
)
