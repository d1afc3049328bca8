-- The least key of two maps is taken, and what is made of the two goes on.
use Rattle.std.proofs.Common.{◌≡◌, true, false, ◌&&◌, cond, List, [], ◌∷◌, ◌++◌, Option, Some, None, T, IsTrue, refl, sym, ap, subst, ◌∙◌}
use Rattle.std.specs.Cmp.{IsTotalOrder, Equal-is}
use Rattle.std.specs.FinMap.{find, is_sorted}
use Rattle.std.specs.FinMap.Entries.{below_all}
use Rattle.std.specs.Option.{option_to_list}
use Rattle.std.specs.Ordering.{eq_by_cmp, is_eq, is_lt, ordering_reverse}
use Rattle.std.specs.declared.cmp.Ordering.{Ordering}
use Rattle.std.specs.declared.cmp.Ordering.TheVariants.{Less, Equal, Greater}
use Rattle.odd_text.proofs.Entries.{as_T, as_IsTrue, first, is_less, second}
use Rattle.odd_overlay.specs.Merging.{IsMergedSoFar, TakesLeast, front, queued, with_first}
use Rattle.odd_overlay.specs.Overlaid.{zipped, is_zipped}
use Rattle.odd_overlay.specs.Tabled.{or_else, put_some, find_put_some, put_some_sorted}

module _ {K : Type 0} (order : K → K → Ordering) where
  below_of : {V : Type 0} (e : K × V) (es : List (K × V)) → IsTrue (is_sorted order (e ∷ es)) → IsTrue (below_all order e.0 es)
  below_of e es h = as_IsTrue _ (first _ _ (as_T _ h))

  sorted_rest : {V : Type 0} (e : K × V) (es : List (K × V)) → IsTrue (is_sorted order (e ∷ es)) → IsTrue (is_sorted order es)
  sorted_rest e es h = as_IsTrue _ (second _ _ (as_T _ h))

  -- without the first entry the rest rises
  pub rest_rises : {V : Type 0} (f : Option (K × V)) (es fs : List (K × V)) (r : Option (K × V)) → IsTrue (is_sorted order (option_to_list f ++ es)) → es ≡ option_to_list r ++ fs
      → IsTrue (is_sorted order (option_to_list r ++ fs))
  rest_rises None es fs r h e = subst (λ xs. IsTrue (is_sorted order xs)) e h
  rest_rises (Some x) es fs r h e = subst (λ xs. IsTrue (is_sorted order xs)) e (sorted_rest x es h)

  -- what is seen of it rises too
  pub queued_rises : {V : Type 0} (f : Option (K × V)) (es : List (K × V)) → IsTrue (is_sorted order (option_to_list f ++ es)) → IsTrue (is_sorted order (queued f es))
  queued_rises None es h = refl
  queued_rises (Some x) es h = h

module _ {K : Type 0} (order : K → K → Ordering) (total : IsTotalOrder order) (exact : (x y : K) → order x y ≡ Equal → x ≡ y) where
  below_lesser : {V : Type 0} (k x : K) (es : List (K × V)) → order k x ≡ Less → T (below_all order x es) → T (below_all order k es)
  below_lesser k x [] l h = tt
  below_lesser k x (e ∷ es) l h =
      let this : order k e.0 ≡ Less = total.trans k x e.0 l (is_less _ (first _ _ h)) in
      subst (λ o. T (is_lt o && below_all order k es)) (sym this) (below_lesser k x es l (second _ _ h))

  below_first : {V : Type 0} (k : K) (e : K × V) (es : List (K × V)) → order k e.0 ≡ Less → IsTrue (is_sorted order (e ∷ es)) → IsTrue (below_all order k (e ∷ es))
  below_first k e es l h = as_IsTrue _ (subst (λ o. T (is_lt o && below_all order k es)) (sym l) (below_lesser k e.0 es l (first _ _ (as_T _ h))))

  turned : (x y : K) (r : Ordering) → order x y ≡ r → order y x ≡ ordering_reverse r
  turned x y r e = total.antisymm y x ∙ ap ordering_reverse e

  -- the first of one is taken
  pub less_taken : {A B : Type 0} (k : K) (a : A) (xs left : List (K × A)) (ys : List (K × B)) → xs ≡ (k, a) ∷ left → IsTrue (is_sorted order xs) → IsTrue (is_sorted order ys)
      → front order xs ys ≡ Some Less → TakesLeast order k (Some a) None xs left ys ys
  less_taken {B = B} k a xs left ys is h g f = record { one = is; other = refl; below = below_of order (k, a) left (subst (λ zs. IsTrue (is_sorted order zs)) is h); below_others = others ys g (ap (λ zs. front order zs ys) (sym is) ∙ f) }
    where
      others : (zs : List (K × B)) → IsTrue (is_sorted order zs) → front order ((k, a) ∷ left) zs ≡ Some Less → IsTrue (below_all order k zs)
      others [] h e = refl
      others (z ∷ zs) h e = let l : order k z.0 ≡ Less = cc in below_first k z zs l h

  -- the first of the other
  pub greater_taken : {A B : Type 0} (k : K) (b : B) (xs : List (K × A)) (ys others : List (K × B)) → ys ≡ (k, b) ∷ others → IsTrue (is_sorted order xs) → IsTrue (is_sorted order ys)
      → front order xs ys ≡ Some Greater → TakesLeast order k None (Some b) xs xs ys others
  greater_taken {A = A} k b xs ys others is g h f = record { one = refl; other = is; below = ones xs g (ap (front order xs) (sym is) ∙ f); below_others = below_of order (k, b) others (subst (λ zs. IsTrue (is_sorted order zs)) is h) }
    where
      ones : (zs : List (K × A)) → IsTrue (is_sorted order zs) → front order zs ((k, b) ∷ others) ≡ Some Greater → IsTrue (below_all order k zs)
      ones [] h e = refl
      ones (z ∷ zs) h e = let l : order z.0 k ≡ Greater = cc in below_first k z zs (turned z.0 k Greater l) h

  -- the first of both
  pub equal_taken : {A B : Type 0} (k j : K) (a : A) (b : B) (xs left : List (K × A)) (ys others : List (K × B)) → xs ≡ (k, a) ∷ left → ys ≡ (j, b) ∷ others
      → IsTrue (is_sorted order xs) → IsTrue (is_sorted order ys) → front order xs ys ≡ Some Equal → TakesLeast order k (Some a) (Some b) xs left ys others
  equal_taken k j a b xs left ys others is these h g f =
      let tie : Some (order k j) ≡ Some Equal = ap (λ zs. front order zs ((j, b) ∷ others)) (sym is) ∙ ap (front order xs) (sym these) ∙ f in
      let e : order k j ≡ Equal = cc in
      let same = exact k j e in
      record {
        one = is;
        other = these ∙ ap (λ i. (i, b) ∷ others) (sym same);
        below = below_of order (k, a) left (subst (λ zs. IsTrue (is_sorted order zs)) is h);
        below_others = subst (λ i. IsTrue (below_all order i others)) (sym same) (below_of order (j, b) others (subst (λ zs. IsTrue (is_sorted order zs)) these g));
      }

  find_below : {V : Type 0} (k : K) (es : List (K × V)) → T (below_all order k es) → find order k es ≡ None
  find_below k [] h = refl
  find_below k (e ∷ es) h = ap (λ o. cond (is_eq o) (Some e.1) (find order k es)) (is_less _ (first _ _ h)) ∙ find_below k es (second _ _ h)

  find_first : {V : Type 0} (q k : K) (v : Option V) (es : List (K × V)) → find order q (with_first k v es) ≡ cond (eq_by_cmp order q k) (or_else v (find order q es)) (find order q es)
  find_first q k None es = elim (eq_by_cmp order q k) as (λ b. find order q es ≡ cond b (find order q es) (find order q es)) [ true ↦ refl | false ↦ refl ]
  find_first q k (Some v) es = refl

  or_none : {A : Type 0} (o : Option A) → or_else o None ≡ o
  or_none None = refl
  or_none (Some x) = refl

  none_left : {V : Type 0} (k : K) (left : List (K × V)) → IsTrue (below_all order k left) → (q : K) → eq_by_cmp order q k ≡ true → find order q left ≡ None
  none_left k left below q t = subst (λ i. find order i left ≡ None) (sym (exact q k ((Equal-is (order q k)).0 t))) (find_below k left (as_T _ below))

  -- at the key that is taken what was taken is found
  found_here : {V : Type 0} (k : K) (v : Option V) (es left : List (K × V)) → es ≡ with_first k v left → IsTrue (below_all order k left) → (q : K) → eq_by_cmp order q k ≡ true → find order q es ≡ v
  found_here k v es left is below q t =
      ap (find order q) is ∙ find_first q k v left ∙ ap (λ b. cond b (or_else v (find order q left)) (find order q left)) t
      ∙ ap (or_else v) (none_left k left below q t) ∙ or_none v

  -- and at another what is left
  found_other : {V : Type 0} (k : K) (v : Option V) (es left : List (K × V)) → es ≡ with_first k v left → (q : K) → eq_by_cmp order q k ≡ false → find order q es ≡ find order q left
  found_other k v es left is q t = ap (find order q) is ∙ find_first q k v left ∙ ap (λ b. cond b (or_else v (find order q left)) (find order q left)) t

  module _ {A B C : Type 0} (f : Option A → Option B → Option C) (none : f None None ≡ None) where
    pub none_merged : (xs : List (K × A)) (ys : List (K × B)) (left : List (K × A)) (others : List (K × B)) (made : List (K × C)) → left ≡ xs → others ≡ ys → made ≡ []
        → IsMergedSoFar order f xs left ys others made
    none_merged xs ys left others made a b e = record {
      rising = ap (is_sorted order) e;
      found = λ q. ap (λ zs. or_else (f (find order q left) (find order q others)) (find order q zs)) e ∙ or_none _ ∙ ap (λ zs. f (find order q zs) (find order q others)) a ∙ ap (λ zs. f (find order q xs) (find order q zs)) b;
    }

    -- one key more
    pub more_merged : (xs : List (K × A)) (ys : List (K × B)) (k : K) (a : Option A) (b : Option B) (c : Option C) (left next : List (K × A)) (others nexts : List (K × B)) (made more : List (K × C))
        → IsMergedSoFar order f xs left ys others made → TakesLeast order k a b left next others nexts → c ≡ f a b → more ≡ put_some order k c made → IsMergedSoFar order f xs next ys nexts more
    more_merged xs ys k a b c left next others nexts made more so t is e = record {
      rising = subst (λ zs. IsTrue (is_sorted order zs)) (sym e) (as_IsTrue _ (put_some_sorted order total k c made (as_T _ so.rising)));
      found = λ q. ap (λ zs. or_else (f (find order q next) (find order q nexts)) (find order q zs)) e
          ∙ ap (or_else (f (find order q next) (find order q nexts))) (find_put_some order total q k c made)
          ∙ elim (eq_by_cmp order q k) as (λ w. eq_by_cmp order q k ≡ w
          → or_else (f (find order q next) (find order q nexts)) (cond w (or_else c (find order q made)) (find order q made)) ≡ f (find order q xs) (find order q ys)) [
            | true ↦ λ w.
                ap (λ o. or_else (f o (find order q nexts)) (or_else c (find order q made))) (none_left k next t.below q w)
                ∙ ap (λ o. or_else (f None o) (or_else c (find order q made))) (none_left k nexts t.below_others q w)
                ∙ ap (λ o. or_else o (or_else c (find order q made))) none
                ∙ ap (λ o. or_else o (find order q made)) is
                ∙ ap (λ o. or_else (f o b) (find order q made)) (sym (found_here k a left next t.one t.below q w))
                ∙ ap (λ o. or_else (f (find order q left) o) (find order q made)) (sym (found_here k b others nexts t.other t.below_others q w))
                ∙ so.found q
            | false ↦ λ w.
                ap (λ o. or_else (f o (find order q nexts)) (find order q made)) (sym (found_other k a left next t.one q w))
                ∙ ap (λ o. or_else (f (find order q left) o) (find order q made)) (sym (found_other k b others nexts t.other q w))
                ∙ so.found q
          ] refl;
    }

    -- all keys
    pub all_merged : (xs : List (K × A)) (ys : List (K × B)) (left : List (K × A)) (others : List (K × B)) (made : List (K × C)) → IsMergedSoFar order f xs left ys others made → left ≡ [] → others ≡ []
        → made ≡ zipped order f xs ys
    all_merged xs ys left others made so a b = is_zipped order total exact f none xs ys made so.rising (λ q.
        sym (ap (λ o. or_else o (find order q made)) (ap (λ zs. f (find order q zs) (find order q others)) a ∙ ap (λ zs. f None (find order q zs)) b ∙ none)) ∙ so.found q)
