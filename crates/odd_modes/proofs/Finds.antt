-- What is found in a table with a pair more or fewer.
use Rattle.std.proofs.Common.{◌≡◌, Bool, true, false, cond, List, [], ◌∷◌, ◌++◌, Some, None, refl, sym, ap, subst, ◌∙◌}
use Rattle.std.proofs.lemmas.Map.Views.{tells_apart}
use Rattle.std.specs.Cmp.{IsTotalOrder, tied_itself}
use Rattle.std.specs.FinMap.{find}
use Rattle.std.specs.FinMap.Entries.{by_order}
use Rattle.std.specs.Ordering.{eq_by_cmp, is_eq, ordering_reverse}
use Rattle.std.specs.declared.cmp.Ordering.{Ordering}
use Rattle.std.specs.declared.cmp.Ordering.TheVariants.{Less, Equal, Greater}
use Rattle.odd_text.proofs.Rise.{IsAboveAll, IsBelowAll, Rises}
use Rattle.odd_modes.specs.Swept.{rest_taken, value_taken}

module _ {K : Type 0} (R : K → K → Ordering) (o : IsTotalOrder R) (exact : (x y : K) → R x y ≡ Equal → x ≡ y) where
  turned_less : (x y : K) → R x y ≡ Less → R y x ≡ Greater
  turned_less x y e = o.antisymm y x ∙ ap ordering_reverse e

  turned_greater : (x y : K) → R x y ≡ Greater → R y x ≡ Less
  turned_greater x y e = o.antisymm y x ∙ ap ordering_reverse e

  turned_equal : (x y : K) → R x y ≡ Equal → R y x ≡ Equal
  turned_equal x y e = o.antisymm y x ∙ ap ordering_reverse e

  module _ {X : Type 0} where
    -- at a key that is not that of the first pair
    past : (k : K) (e : K × X) (es : List (K × X)) (r : Ordering) → R k e.0 ≡ r → is_eq r ≡ false → find R k (e ∷ es) ≡ find R k es
    past k e es r h n = ap (λ s. cond (is_eq s) (Some e.1) (find R k es)) h ∙ ap (λ b. cond b (Some e.1) (find R k es)) n

    pub at_first : (k : K) (e : K × X) (es : List (K × X)) → R k e.0 ≡ Equal → find R k (e ∷ es) ≡ Some e.1
    at_first k e es h = ap (λ s. cond (is_eq s) (Some e.1) (find R k es)) h

    -- nothing is found at a key that is above every key, or below every key
    pub none_above : (q : K) (m : List (K × X)) → IsAboveAll R m q → find R q m ≡ None
    none_above q [] a = refl
    none_above q (e ∷ es) a = past q e es Greater (turned_less e.0 q a.0) refl ∙ none_above q es a.1

    pub none_below : (q : K) (m : List (K × X)) → IsBelowAll R q m → find R q m ≡ None
    none_below q [] a = refl
    none_below q (e ∷ es) a = past q e es Less a.0 refl ∙ none_below q es a.1

    push_same : (q : K) (v : X) (m : List (K × X)) → IsAboveAll R m q → find R q (m ++ (q, v) ∷ []) ≡ Some v
    push_same q v [] a = at_first q (q, v) [] (tied_itself o q)
    push_same q v (e ∷ es) a = past q e (es ++ (q, v) ∷ []) Greater (turned_less e.0 q a.0) refl ∙ push_same q v es a.1

    push_other : (k q : K) (v : X) (m : List (K × X)) → eq_by_cmp R k q ≡ false → find R k (m ++ (q, v) ∷ []) ≡ find R k m
    push_other k q v [] n = past k (q, v) [] (R k q) refl n
    push_other k q v (e ∷ es) n = ap (λ z. cond (eq_by_cmp R k e.0) (Some e.1) z) (push_other k q v es n)

    -- with a pair more whose key is above every key
    pub found_more : (k q : K) (v : X) (m : List (K × X)) → IsAboveAll R m q → find R k (m ++ (q, v) ∷ []) ≡ cond (eq_by_cmp R k q) (Some v) (find R k m)
    found_more k q v m a = by_tie (eq_by_cmp R k q) refl
      where
        by_tie : (b : Bool) → eq_by_cmp R k q ≡ b → find R k (m ++ (q, v) ∷ []) ≡ cond b (Some v) (find R k m)
        by_tie true e = subst (λ z. find R z (m ++ (q, v) ∷ []) ≡ Some v) (sym (tells_apart exact k q e)) (push_same q v m a)
        by_tie false e = push_other k q v m e

    -- what is found among keys above q is above q
    pub found_above : (q k : K) (a : X) (m : List (K × X)) → IsBelowAll R q m → find R k m ≡ Some a → R q k ≡ Less
    found_above q k a [] b h = cc
    found_above q k a (e ∷ es) b h =
        elim (R k e.0) as (λ r. R k e.0 ≡ r → R q k ≡ Less) [
          | Less ↦ λ p. found_above q k a es b.1 (sym (past k e es Less p refl) ∙ h)
          | Equal ↦ λ p. subst (λ y. R q y ≡ Less) (sym (exact k e.0 p)) b.0
          | Greater ↦ λ p. found_above q k a es b.1 (sym (past k e es Greater p refl) ∙ h)
        ] refl

    below_chain : (x y : K) (m : List (K × X)) → R x y ≡ Less → IsBelowAll R y m → IsBelowAll R x m
    below_chain x y [] h b = tt
    below_chain x y (e ∷ es) h b = (o.trans x y e.0 h b.0, below_chain x y es h b.1)

    -- what is taken at a key is what is found there
    pub taken_value : (q : K) (b : List (K × X)) → Rises R b → value_taken R q b ≡ find R q b
    taken_value q [] h = refl
    taken_value q (e ∷ es) h =
        elim (R e.0 q) as (λ r. R e.0 q ≡ r → by_order r (value_taken R q es) (Some e.1) None ≡ find R q (e ∷ es)) [
          | Less ↦ λ p. taken_value q es h.1 ∙ sym (past q e es Greater (turned_less e.0 q p) refl)
          | Equal ↦ λ p. sym (at_first q e es (turned_equal e.0 q p))
          | Greater ↦ λ p. sym (past q e es Less (turned_greater e.0 q p) refl ∙ none_below q es (below_chain q e.0 es (turned_greater e.0 q p) h.0))
        ] refl

    -- the rest rises
    pub taken_rises : (q : K) (b : List (K × X)) → Rises R b → Rises R (rest_taken R q b)
    taken_rises q [] h = tt
    taken_rises q (e ∷ es) h = elim (R e.0 q) as (λ r. Rises R (by_order r (rest_taken R q es) es (e ∷ es))) [ Less ↦ taken_rises q es h.1 | Equal ↦ h.1 | Greater ↦ h ]

    -- and has what was there at the keys above
    pub taken_others : (q k : K) (b : List (K × X)) → R q k ≡ Less → find R k (rest_taken R q b) ≡ find R k b
    taken_others q k [] l = refl
    taken_others q k (e ∷ es) l =
        elim (R e.0 q) as (λ r. R e.0 q ≡ r → find R k (by_order r (rest_taken R q es) es (e ∷ es)) ≡ find R k (e ∷ es)) [
          | Less ↦ λ p. taken_others q k es l ∙ sym (past k e es Greater (turned_less e.0 k (o.trans e.0 q k p l)) refl)
          | Equal ↦ λ p. sym (past k e es Greater (turned_less e.0 k (o.congr e.0 q k p ∙ l)) refl)
          | Greater ↦ λ p. refl
        ] refl
