-- The set of the items of a list, sorted, each once, is one list.
use Rattle.std.proofs.Common.{◌≡◌, List, [], ◌∷◌, ⊎_elim, refl, sym, ap, subst, ◌∙◌, ◌↔◌, if◌then◌else◌, Bool, true, ◌++◌}
use Rattle.std.proofs.lemmas.List.Kept.{IsStrictlySortedBy-dedup, Contains-dedup, Contains-from_dedup}
use Rattle.std.proofs.lemmas.List.Sorted.{Contains-permutation, IsPermutation-sym}
use Rattle.std.specs.Cmp.{IsTotalOrder, tied_itself, IsEquivalence}
use Rattle.std.specs.List.{dedup}
use Rattle.std.specs.List.Sorted.{IsPermutation, IsSorted, IsStrictlySortedBy}
use Rattle.std.specs.Ordering.{ordering_reverse, is_eq, is_gt, eq_by_cmp}
use Rattle.std.specs.declared.cmp.Ordering.{Ordering}
use Rattle.std.specs.declared.cmp.Ordering.TheVariants.{Less, Equal, Greater}
use Rattle.odd_text.proofs.InList.{first_or_later, nothing_stands, stands_first, stands_later, contained, standing}
use Rattle.odd_text.specs.Standing.{StandsIn}
use Rattle.odd_text.specs.Sorted.{AreRising, IsSet, inserted, set_of}

module _ {A : Type 0} (order : A → A → Ordering) (total : IsTotalOrder order) where
  -- the other way round the order is reversed
  pub turned : (x y : A) (r : Ordering) → order y x ≡ r → order x y ≡ ordering_reverse r
  turned x y r e = total.antisymm x y ∙ ap ordering_reverse e

  -- no item is below itself
  pub not_below : (x : A) → order x x ≡ Less → ⊥
  not_below x e = let same : order x x ≡ Equal = tied_itself total x in cc

  -- the rest of items that rise rises
  pub rest_rising : (x : A) (xs : List A) → AreRising order (x ∷ xs) → AreRising order xs
  rest_rising x xs r before after item next e = r (x ∷ before) after item next (ap (λ ys. x ∷ ys) e)

  -- the first of items that rise is below the others
  pub first_below : (x : A) (xs : List A) → AreRising order (x ∷ xs) → (y : A) → StandsIn xs y → order x y ≡ Less
  first_below x [] r y s = absurd (nothing_stands y s)
  first_below x (z ∷ xs) r y s =
      let less : order x z ≡ Less = r [] xs x z refl in
      ⊎_elim (λ e. subst (λ w. order x w ≡ Less) (sym e) less) (λ t. total.trans x z y less (first_below z xs (rest_rising x (z ∷ xs) r) y t)) (first_or_later z y xs s)

  -- all of one list stands in the other
  abbrev StandsAll : List A → List A → Type 0
  StandsAll some others = (x : A) → StandsIn some x → StandsIn others x

  -- the rest of one list stands in the rest of the other
  rest_stands : (x : A) (xs ys : List A) → AreRising order (x ∷ xs) → StandsAll (x ∷ xs) (x ∷ ys) → StandsAll xs ys
  rest_stands x xs ys r all y s =
      ⊎_elim (λ e. absurd (not_below x (subst (λ z. order x z ≡ Less) e (first_below x xs r y s)))) (λ t. t) (first_or_later x y ys (all y (stands_later x y xs s)))

  -- two such lists begin with one item
  same_first : (x y : A) (xs ys : List A) → AreRising order (x ∷ xs) → AreRising order (y ∷ ys) → StandsIn (y ∷ ys) x → StandsIn (x ∷ xs) y → x ≡ y
  same_first x y xs ys r q s t =
      ⊎_elim (λ e. e)
      (λ u. ⊎_elim sym (λ v. absurd (not_below x (total.trans x y x (first_below x xs r y v) (first_below y ys q x u)))) (first_or_later x y xs t))
      (first_or_later y x ys s)

  -- lists that rise and in which the same items stand are one list
  one_rising : (xs ys : List A) → AreRising order xs → AreRising order ys → StandsAll xs ys → StandsAll ys xs → xs ≡ ys
  one_rising [] [] r q a b = refl
  one_rising [] (y ∷ ys) r q a b = absurd (nothing_stands y (b y (stands_first y ys)))
  one_rising (x ∷ xs) [] r q a b = absurd (nothing_stands x (a x (stands_first x xs)))
  one_rising (x ∷ xs) (y ∷ ys) r q a b =
      let e : x ≡ y = same_first x y xs ys r q (a x (stands_first x xs)) (b y (stands_first y ys)) in
      let q' : AreRising order (x ∷ ys) = subst (λ z. AreRising order (z ∷ ys)) (sym e) q in
      let a' : StandsAll (x ∷ xs) (x ∷ ys) = subst (λ z. StandsAll (x ∷ xs) (z ∷ ys)) (sym e) a in
      let b' : StandsAll (x ∷ ys) (x ∷ xs) = subst (λ z. StandsAll (z ∷ ys) (x ∷ xs)) (sym e) b in
      let rest : xs ≡ ys = one_rising xs ys (rest_rising x xs r) (rest_rising x ys q') (rest_stands x xs ys r a') (rest_stands x ys xs q' b') in
      λ n. e n ∷ rest n

  -- a set is told by what it is a set of
  pub one_set : (Is : A → Type 0) (xs ys : List A) → IsSet order Is xs → IsSet order Is ys → xs ≡ ys
  one_set Is xs ys p q = one_rising xs ys p.rising q.rising (λ x s. q.each x (p.none_else x s)) (λ x s. p.each x (q.none_else x s))

  -- items of which neither is below the other are one, where only equal items tie
  pub neither_below : ((x y : A) → order x y ≡ Equal → x ≡ y) → (x y : A) → (order x y ≡ Less → ⊥) → (order y x ≡ Less → ⊥) → x ≡ y
  neither_below exact x y h k =
      elim (order x y) as (λ o. order x y ≡ o → x ≡ y) [
        | Less ↦ λ e. absurd (h e)
        | Equal ↦ λ e. exact x y e
        | Greater ↦ λ e. absurd (k (turned y x Greater e))
      ] refl

module _ {A : Type 0} (order : A → A → Ordering) where
  -- no items rise
  pub none_rising : AreRising order []
  none_rising before after item next e = absurd (nothing_stands item (before, next ∷ after, e))

  -- with an item more that is below all of them items rise
  pub rising_more : (x : A) (xs : List A) → ((y : A) → StandsIn xs y → order x y ≡ Less) → AreRising order xs → AreRising order (x ∷ xs)
  rising_more x xs below r [] after item next e =
      let first : x ≡ item = cc in
      let rest : xs ≡ next ∷ after = cc in
      subst (λ z. order z next ≡ Less) first (below next (subst (λ ys. StandsIn ys next) (sym rest) (stands_first next after)))
  rising_more x xs below r (z ∷ before) after item next e = r before after item next (cc)

  -- the set of what is such is the set of what is such by other words
  pub set_same : (Is Other : A → Type 0) (items : List A) → ((item : A) → Is item ↔ Other item) → IsSet order Is items → IsSet order Other items
  set_same Is Other items same h = record { rising = h.rising; none_else = λ item s. (same item).0 (h.none_else item s); each = λ item o. h.each item ((same item).1 o) }

module _ {A : Type 0} (order : A → A → Ordering) (total : IsTotalOrder order) (exact : (x y : A) → order x y ≡ Equal → x ≡ y) where
  -- an item is inserted into items that rise
  inserted_is : (x : A) (xs : List A) → AreRising order xs → IsSet order (StandsIn (x ∷ xs)) (inserted order x xs)
  inserted_is x [] r = record { rising = rising_more order x [] (λ y s. absurd (nothing_stands y s)) r; none_else = λ y s. s; each = λ y s. s }
  inserted_is x (z ∷ xs) r = by_order (inserted_is x xs (rest_rising order total z xs r)) (order x z) refl
    where
      Made : Ordering → Type 0
      Made o = IsSet order (StandsIn (x ∷ z ∷ xs)) (if is_gt o then z ∷ inserted order x xs else if is_eq o then z ∷ xs else x ∷ (z ∷ xs))

      by_order : IsSet order (StandsIn (x ∷ xs)) (inserted order x xs) → (o : Ordering) → order x z ≡ o → Made o
      by_order rest Less e = record {
        rising = rising_more order x (z ∷ xs)
            (λ y s. ⊎_elim (λ is. subst (λ w. order x w ≡ Less) (sym is) e) (λ t. total.trans x z y e (first_below order total z xs r y t)) (first_or_later z y xs s)) r;
        none_else = λ y s. s;
        each = λ y s. s;
      }
      by_order rest Equal e = record {
        rising = r;
        none_else = λ y s. stands_later x y (z ∷ xs) s;
        each = λ y s. ⊎_elim (λ is. subst (StandsIn (z ∷ xs)) (sym (is ∙ exact x z e)) (stands_first z xs)) (λ t. t) (first_or_later x y (z ∷ xs) s);
      }
      by_order rest Greater e =
          record {
            rising = rising_more order z (inserted order x xs)
                (λ y s. ⊎_elim (λ is. subst (λ w. order z w ≡ Less) (sym is) (turned order total z x Greater e)) (λ t. first_below order total z xs r y t) (first_or_later x y xs (rest.none_else y s)))
                rest.rising;
            none_else = λ y s.
                ⊎_elim (λ is. stands_later x y (z ∷ xs) (subst (StandsIn (z ∷ xs)) (sym is) (stands_first z xs)))
                (λ t. ⊎_elim (λ is. subst (StandsIn (x ∷ z ∷ xs)) (sym is) (stands_first x (z ∷ xs))) (λ u. stands_later x y (z ∷ xs) (stands_later z y xs u)) (first_or_later x y xs (rest.none_else y t)))
                (first_or_later z y (inserted order x xs) s);
            each = λ y s.
                ⊎_elim (λ is. stands_later z y (inserted order x xs) (rest.each y (subst (StandsIn (x ∷ xs)) (sym is) (stands_first x xs))))
                (λ t. ⊎_elim (λ is. subst (StandsIn (z ∷ inserted order x xs)) (sym is) (stands_first z (inserted order x xs)))
                (λ u. stands_later z y (inserted order x xs) (rest.each y (stands_later x y xs u))) (first_or_later z y xs t))
                (first_or_later x y (z ∷ xs) s);
          }

  -- the set of the items
  pub set_of_is : (items : List A) → IsSet order (StandsIn items) (set_of order items)
  set_of_is [] = record { rising = none_rising order; none_else = λ y s. s; each = λ y s. s }
  set_of_is (x ∷ xs) =
      let rest = set_of_is xs in
      let all = inserted_is x (set_of order xs) rest.rising in
      record {
        rising = all.rising;
        none_else = λ y s.
            ⊎_elim (λ is. subst (StandsIn (x ∷ xs)) (sym is) (stands_first x xs)) (λ t. stands_later x y xs (rest.none_else y t)) (first_or_later x y (set_of order xs) (all.none_else y s));
        each = λ y s.
            all.each y (⊎_elim (λ is. subst (StandsIn (x ∷ set_of order xs)) (sym is) (stands_first x (set_of order xs))) (λ t. stands_later x y (set_of order xs) (rest.each y t)) (first_or_later x y xs s));
      }

-- neighbours in a list that is strictly sorted
neighbours : {A : Type 0} (order : A → A → Ordering) (before after : List A) (item next : A) → IsStrictlySortedBy order (before ++ item ∷ (next ∷ after)) → order item next ≡ Less
unfolding IsStrictlySortedBy
neighbours order [] after item next h = h.0.0
neighbours order (first ∷ before) after item next h = neighbours order before after item next h.1

only_equal : (r : Ordering) → is_eq r ≡ true → r ≡ Equal
only_equal Less h = cc
only_equal Equal h = λ _. Equal
only_equal Greater h = cc

-- where only equal items tie, sorting and dropping what is repeated gives the set of the items
pub sorted_once : {A : Type 0} (order : A → A → Ordering) (same : A → A → Bool) → IsTotalOrder order → IsEquivalence same → ((x y : A) → same x y ≡ eq_by_cmp order x y)
    → ((x y : A) → order x y ≡ Equal → x ≡ y) → (items ordered once : List A) → IsPermutation items ordered → IsSorted order ordered → once ≡ dedup same ordered
    → IsSet order (StandsIn items) once
sorted_once {A} order same total alike ties exact items ordered once moved up is = record {
  rising = λ before after item next e.
      neighbours order before after item next (subst (IsStrictlySortedBy order) (sym is ∙ e) (IsStrictlySortedBy-dedup total ties ordered up));
  none_else = λ item s.
      standing items item (Contains-permutation ordered items item (IsPermutation-sym items ordered moved)
      (Contains-from_dedup same ordered item (contained (dedup same ordered) item (subst (λ xs. StandsIn xs item) is s))));
  each = λ item s.
      subst (λ xs. StandsIn xs item) (sym is) (standing (dedup same ordered) item
      (Contains-dedup alike (λ x y h. exact x y (only_equal (order x y) (sym (ties x y) ∙ h))) ordered item (Contains-permutation items ordered item moved (contained items item s))));
}
