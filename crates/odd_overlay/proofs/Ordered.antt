-- Entries that are put one after the other, in rising order, and into a tree.
use Rattle.std.proofs.Common.{◌≡◌, List, [], ◌∷◌, ◌++◌, T, refl, ap, ◌∙◌}
use Rattle.std.specs.BTreeMap.{insert_entry}
use Rattle.std.specs.Cmp.{IsTotalOrder}
use Rattle.std.specs.FinMap.{is_sorted, put}
use Rattle.std.specs.FinMap.Entries.{below_all, by_order}
use Rattle.std.specs.Ordering.{is_lt, match_ordering, ordering_reverse}
use Rattle.std.specs.declared.cmp.Ordering.{Ordering}
use Rattle.std.specs.declared.cmp.Ordering.TheVariants.{Less, Equal, Greater}
use Rattle.odd_text.proofs.Entries.{first, is_less, second}

module _ {K V : Type 0} (order : K → K → Ordering) (total : IsTotalOrder order) where
  -- a key that is below all is below one of them
  below_one : (x k : K) (v : V) (es rest : List (K × V)) → T (below_all order x (es ++ (k, v) ∷ rest)) → order x k ≡ Less
  below_one x k v [] rest h = is_less (order x k) (first (is_lt (order x k)) (below_all order x rest) h)
  below_one x k v (e ∷ es) rest h = below_one x k v es rest (second (is_lt (order x e.0)) (below_all order x (es ++ (k, v) ∷ rest)) h)

  -- an entry above all others is put last
  pub put_last : (k : K) (v : V) (es rest : List (K × V)) → T (is_sorted order (es ++ (k, v) ∷ rest)) → put order k v es ≡ es ++ (k, v) ∷ []
  put_last k v [] rest h = refl
  put_last k v (e ∷ es) rest h =
      let less = below_one e.0 k v es rest (first (below_all order e.0 (es ++ (k, v) ∷ rest)) (is_sorted order (es ++ (k, v) ∷ rest)) h) in
      let greater : order k e.0 ≡ Greater = total.antisymm k e.0 ∙ ap ordering_reverse less in
      ap (λ o. by_order o ((k, v) ∷ e ∷ es) ((e.0, v) ∷ es) (e ∷ put order k v es)) greater
      ∙ ap (λ fs. e ∷ fs) (put_last k v es rest (second (below_all order e.0 (es ++ (k, v) ∷ rest)) (is_sorted order (es ++ (k, v) ∷ rest)) h))

-- the two choices by an ordering are one
same_choice : {A : Type 0} (o : Ordering) (a b c d : A) → c ≡ d → match_ordering o a b c ≡ by_order o a b d
same_choice Less a b c d e = refl
same_choice Equal a b c d e = refl
same_choice Greater a b c d e = e

-- an entry goes into a tree where it is put
pub inserted_put : {K V : Type 0} (order : K → K → Ordering) (k : K) (v : V) (es : List (K × V)) → insert_entry order es k v ≡ put order k v es
inserted_put order k v [] = refl
inserted_put order k v (e ∷ es) = same_choice (order k e.0) _ _ _ _ (ap (λ fs. e ∷ fs) (inserted_put order k v es))
