-- Entries in rising order of their keys: the keys rise, and each entry is found at its key.
use Rattle.std.proofs.Common.{◌≡◌, cond, List, [], ◌∷◌, ◌++◌, Some, T, ⊎_elim, sym, ap, subst, ◌∙◌}
use Rattle.std.specs.Prelude.{IsTrue}
use Rattle.std.specs.Cmp.{IsTotalOrder, tied_itself}
use Rattle.std.specs.FinMap.{find, is_sorted}
use Rattle.std.specs.FinMap.Entries.{below_all}
use Rattle.std.specs.Ordering.{is_eq, ordering_reverse}
use Rattle.std.specs.declared.cmp.Ordering.{Ordering}
use Rattle.std.specs.declared.cmp.Ordering.TheVariants.{Less}
use Rattle.odd_text.proofs.Entries.{as_T, first, is_less, second}
use Rattle.odd_text.specs.Standing.{StandsIn}
use Rattle.odd_text.proofs.InList.{first_or_later, nothing_stands}
use Rattle.odd_text.specs.Sorted.{AreRising}
use Rattle.odd_text.proofs.SetOf.{none_rising, rising_more}
use Rattle.odd_overlay.specs.Tabled.{keys_of}

module _ {K V : Type 0} (order : K → K → Ordering) where
  keys_below : (k : K) (es : List (K × V)) → T (below_all order k es) → (q : K) → StandsIn (keys_of es) q → order k q ≡ Less
  keys_below k [] h q s = absurd (nothing_stands q s)
  keys_below k (e ∷ es) h q s =
      ⊎_elim (λ is. subst (λ w. order k w ≡ Less) (sym is) (is_less _ (first _ _ h))) (λ later. keys_below k es (second _ _ h) q later) (first_or_later e.0 q (keys_of es) s)

  keys_in_order : (es : List (K × V)) → T (is_sorted order es) → AreRising order (keys_of es)
  keys_in_order [] h = none_rising order
  keys_in_order (e ∷ es) h = rising_more order e.0 (keys_of es) (keys_below e.0 es (first _ _ h)) (keys_in_order es (second _ _ h))

  -- the keys rise
  pub keys_rise : (es : List (K × V)) → IsTrue (is_sorted order es) → AreRising order (keys_of es)
  keys_rise es up = keys_in_order es (as_T _ up)

  -- a key that is below all is below each
  below_one : (k : K) (before after : List (K × V)) (e : K × V) → T (below_all order k (before ++ e ∷ after)) → order k e.0 ≡ Less
  below_one k [] after e h = is_less _ (first _ _ h)
  below_one k (x ∷ before) after e h = below_one k before after e (second _ _ h)

module _ {K V : Type 0} (order : K → K → Ordering) (total : IsTotalOrder order) where
  found_among : (before after : List (K × V)) (e : K × V) → T (is_sorted order (before ++ e ∷ after)) → find order e.0 (before ++ e ∷ after) ≡ Some e.1
  found_among [] after e h = ap (λ o. cond (is_eq o) (Some e.1) (find order e.0 after)) (tied_itself total e.0)
  found_among (x ∷ before) after e h =
      let greater = total.antisymm e.0 x.0 ∙ ap ordering_reverse (below_one order x.0 before after e (first _ _ h)) in
      ap (λ o. cond (is_eq o) (Some x.1) (find order e.0 (before ++ e ∷ after))) greater ∙ found_among before after e (second _ _ h)

  -- each entry is found
  pub entry_found : (es : List (K × V)) (e : K × V) → IsTrue (is_sorted order es) → StandsIn es e → find order e.0 es ≡ Some e.1
  entry_found es e up s = subst (λ xs. find order e.0 xs ≡ Some e.1) (sym s.2) (found_among s.0 s.1 e (subst (λ xs. T (is_sorted order xs)) s.2 (as_T _ up)))
