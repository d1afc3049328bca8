-- Lists with one item more, and lists of the same items: what stands in them, once and twice.
use Rattle.std.proofs.Common.{◌≡◌, ◌⊎◌, List, [], ◌∷◌, ◌++◌, map, inl, inr, ⊎_elim, refl, sym, ap, subst, ◌∙◌, append_assoc}
use Rattle.std.proofs.lemmas.List.{map-append}
use Rattle.odd_text.specs.Standing.{StandsIn}
use Rattle.odd_text.proofs.InList.{StandsOnce, first_or_later, nothing_stands, stands_around, stands_first, stands_later}
use Rattle.odd_text.proofs.InList as standing
use Rattle.odd_text.specs.Standing.{StandsTwice}

-- what stands in two lists stands in one of them
pub stands_either : {A : Type 0} (xs ys : List A) (x : A) → StandsIn (xs ++ ys) x → StandsIn xs x ⊎ StandsIn ys x
stands_either [] ys x s = inr s
stands_either (y ∷ xs) ys x s =
    ⊎_elim (λ e. inl (subst (StandsIn (y ∷ xs)) (sym e) (stands_first y xs))) (λ later. ⊎_elim (λ k. inl (stands_later y x xs k)) inr (stands_either xs ys x later))
    (first_or_later y x (xs ++ ys) s)

-- and what stands in one of them stands in both
pub stands_left : {A : Type 0} (xs ys : List A) (x : A) → StandsIn xs x → StandsIn (xs ++ ys) x
stands_left xs ys x s = (s.0, s.1 ++ ys, ap (λ zs. zs ++ ys) s.2 ∙ append_assoc s.0 (x ∷ s.1) ys)

pub stands_right : {A : Type 0} (xs ys : List A) (x : A) → StandsIn ys x → StandsIn (xs ++ ys) x
stands_right xs ys x s = (xs ++ s.0, s.1, ap (λ zs. xs ++ zs) s.2 ∙ sym (append_assoc xs s.0 (x ∷ s.1)))

-- Lists with one item more

-- what stands in a list stands there with one item more too
pub stands_with : {A : Type 0} (before after : List A) (x y : A) → StandsIn (before ++ after) y → StandsIn (before ++ x ∷ after) y
stands_with [] after x y s = stands_later x y after s
stands_with (b ∷ before) after x y s =
    ⊎_elim (λ e. subst (StandsIn (b ∷ (before ++ x ∷ after))) (sym e) (stands_first b (before ++ x ∷ after)))
    (λ later. stands_later b y (before ++ x ∷ after) (stands_with before after x y later)) (first_or_later b y (before ++ after) s)

-- one that is such is such with one item more too
once_with : {A : Type 0} (Is : A → Type 0) (before after : List A) (x : A) → StandsOnce Is (before ++ after) → StandsOnce Is (before ++ x ∷ after)
once_with Is before after x s = (s.0, stands_with before after x s.0 s.1, s.2)

-- two that are such, the first of which is the first item
first_and_later : {A : Type 0} (Is : A → Type 0) (x : A) (xs : List A) → Is x → StandsOnce Is xs → StandsTwice Is (x ∷ xs)
first_and_later Is x xs is s = record { before = []; first = x; between = s.1.0; later = s.0; after = s.1.1; parts = ap (λ ys. x ∷ ys) s.1.2; first_is = is; later_is = s.2 }

-- two that are such are such with one item more before them
twice_later : {A : Type 0} (Is : A → Type 0) (x : A) (xs : List A) → StandsTwice Is xs → StandsTwice Is (x ∷ xs)
twice_later Is x xs w = record {
  before = x ∷ w.before;
  first = w.first;
  between = w.between;
  later = w.later;
  after = w.after;
  parts = ap (λ ys. x ∷ ys) w.parts;
  first_is = w.first_is;
  later_is = w.later_is;
}

-- two that are such are the first item and a later one, or stand in the rest
pub twice_cases : {A : Type 0} (Is : A → Type 0) (x : A) (xs : List A) → StandsTwice Is (x ∷ xs) → (Is x × StandsOnce Is xs) ⊎ StandsTwice Is xs
twice_cases {A} Is x xs w = by_place w.before w.parts
  where
    by_place : (before : List A) → x ∷ xs ≡ before ++ w.first ∷ (w.between ++ w.later ∷ w.after) → (Is x × StandsOnce Is xs) ⊎ StandsTwice Is xs
    by_place [] e =
        let same : w.first ≡ x = cc in
        let rest : xs ≡ w.between ++ w.later ∷ w.after = cc in
        inl (subst Is same w.first_is, (w.later, (w.between, w.after, rest), w.later_is))
    by_place (b ∷ before) e =
        let rest : xs ≡ before ++ w.first ∷ (w.between ++ w.later ∷ w.after) = cc in
        inr (record { before = before; first = w.first; between = w.between; later = w.later; after = w.after; parts = rest; first_is = w.first_is; later_is = w.later_is })

-- none are such twice where nothing stands
pub none_twice : {A : Type 0} (Is : A → Type 0) → StandsTwice Is [] → ⊥
none_twice Is w = nothing_stands w.first (w.before, w.between ++ w.later ∷ w.after, w.parts)

-- two that are such are such with one item more anywhere
pub twice_more : {A : Type 0} (Is : A → Type 0) (before after : List A) (x : A) → StandsTwice Is (before ++ after) → StandsTwice Is (before ++ x ∷ after)
twice_more Is [] after x w = twice_later Is x after w
twice_more Is (b ∷ before) after x w =
    ⊎_elim (λ f. first_and_later Is b (before ++ x ∷ after) f.0 (once_with Is before after x f.1))
    (λ later. twice_later Is b (before ++ x ∷ after) (twice_more Is before after x later)) (twice_cases Is b (before ++ after) w)

-- and one that is such, with one more that is such
pub one_more : {A : Type 0} (Is : A → Type 0) (before after : List A) (x : A) → Is x → StandsOnce Is (before ++ after) → StandsTwice Is (before ++ x ∷ after)
one_more Is [] after x is s = first_and_later Is x after is s
one_more Is (b ∷ before) after x is s =
    ⊎_elim (λ e. first_and_later Is b (before ++ x ∷ after) (subst Is e s.2) (x, (before, after, refl), is))
    (λ later. twice_later Is b (before ++ x ∷ after) (one_more Is before after x is (s.0, later, s.2))) (first_or_later b s.0 (before ++ after) s.1)

-- Lists of the same items

-- the items of one are those of the other, in some order
pub data AreShuffled {A : Type 0} : List A → List A → Type 0 where
  none : AreShuffled [] []
  one : {x : A} {xs ys : List A} (before after : List A) → ys ≡ before ++ x ∷ after → AreShuffled xs (before ++ after) → AreShuffled (x ∷ xs) ys

-- what stands in one stands in the other
pub shuffled_back : {A : Type 0} {xs ys : List A} (y : A) → AreShuffled xs ys → StandsIn ys y → StandsIn xs y
shuffled_back y AreShuffled.none s = s
shuffled_back y (AreShuffled.one {x = x} {xs = xs} earlier later is rest) s = elim (stands_around earlier x later s.0 y s.1 (sym is ∙ s.2)) [
  | standing.before c h ↦ stands_later x y xs (shuffled_back y rest (stands_left earlier later y (s.0, c, h)))
  | standing.here h e ↦ subst (StandsIn (x ∷ xs)) e (stands_first x xs)
  | standing.after c h ↦ stands_later x y xs (shuffled_back y rest (stands_right earlier later y (c, s.1, h)))
]

-- what is such in one is such in the other
pub once_shuffled : {A : Type 0} (Is : A → Type 0) {xs ys : List A} → AreShuffled xs ys → StandsOnce Is xs → StandsOnce Is ys
once_shuffled Is AreShuffled.none s = s
once_shuffled Is (AreShuffled.one {x = x} {xs = xs} before after e m) s =
    subst (StandsOnce Is) (sym e)
    (⊎_elim (λ same. (x, (before, after, refl), subst Is same s.2)) (λ later. once_with Is before after x (once_shuffled Is m (s.0, later, s.2))) (first_or_later x s.0 xs s.1))

-- and so are two of them
pub twice_shuffled : {A : Type 0} (Is : A → Type 0) {xs ys : List A} → AreShuffled xs ys → StandsTwice Is xs → StandsTwice Is ys
twice_shuffled Is AreShuffled.none w = w
twice_shuffled Is (AreShuffled.one {x = x} {xs = xs} before after e m) w =
    subst (StandsTwice Is) (sym e)
    (⊎_elim (λ f. one_more Is before after x f.0 (once_shuffled Is m f.1)) (λ later. twice_more Is before after x (twice_shuffled Is m later)) (twice_cases Is x xs w))

-- the images of the items are the same
pub map_shuffled : {A B : Type 0} (f : A → B) {xs ys : List A} → AreShuffled xs ys → AreShuffled (map f xs) (map f ys)
map_shuffled f AreShuffled.none = AreShuffled.none
map_shuffled f (AreShuffled.one {x = x} {xs = xs} before after e m) =
    AreShuffled.one (map f before) (map f after) (ap (map f) e ∙ map-append f before (x ∷ after)) (subst (AreShuffled (map f xs)) (map-append f before after) (map_shuffled f m))
