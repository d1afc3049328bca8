-- The map that holds what a function gives at each of some keys.
use Rattle.std.specs.Prelude.{◌≡◌, Bool, true, false, ◌||◌, cond, List, [], ◌∷◌, map, Option, Some, None, IsTrue, T, refl}
use Rattle.std.proofs.Common.{sym, ap, subst, ◌∙◌}
use Rattle.std.specs.Cmp.{IsTotalOrder, Equal-is}
use Rattle.std.specs.FinMap.{find, put, is_sorted}
use Rattle.std.specs.FinMap.Entries.{find-put, is_sorted-put, same_entries}
use Rattle.std.specs.List.{list_any}
use Rattle.std.specs.Ordering.{eq_by_cmp}
use Rattle.std.specs.declared.cmp.Ordering.{Ordering}
use Rattle.std.specs.declared.cmp.Ordering.TheVariants.{Equal}

-- the keys of a map
abbrev pub keys_of : {K V : Type 0} → List (K × V) → List K
keys_of es = map (λ e. e.0) es

-- the value at the key, where there is one
abbrev pub put_some : {K V : Type 0} → (K → K → Ordering) → K → Option V → List (K × V) → List (K × V)
put_some order k None es = es
put_some order k (Some v) es = put order k v es

-- the map of what the function gives at these keys
abbrev pub tabled : {K V : Type 0} → (K → K → Ordering) → (K → Option V) → List K → List (K × V)
tabled order f [] = []
tabled order f (k ∷ ks) = put_some order k (f k) (tabled order f ks)

-- the first, where there is one, and else the second
abbrev pub or_else : {A : Type 0} → Option A → Option A → Option A
or_else None o = o
or_else (Some x) o = Some x

-- what is found where a value is put, where there is one
pub find_put_some : {K V : Type 0} (order : K → K → Ordering) → IsTotalOrder order → (q k : K) (v : Option V) (es : List (K × V))
    → find order q (put_some order k v es) ≡ cond (eq_by_cmp order q k) (or_else v (find order q es)) (find order q es)
find_put_some order total q k None es = elim (eq_by_cmp order q k) as (λ b. find order q es ≡ cond b (find order q es) (find order q es)) [ true ↦ refl | false ↦ refl ]
find_put_some order total q k (Some v) es = find-put order total q k v es

-- the map rises still
pub put_some_sorted : {K V : Type 0} (order : K → K → Ordering) → IsTotalOrder order → (k : K) (v : Option V) (es : List (K × V)) → T (is_sorted order es) → T (is_sorted order (put_some order k v es))
put_some_sorted order total k None es h = h
put_some_sorted order total k (Some v) es h = is_sorted-put order total k v es h

truth : (b : Bool) → IsTrue b → T b
truth b h = subst T (sym h) tt

as_true : (b : Bool) → T b → IsTrue b
as_true true h = refl
as_true false h = absurd h

module _ {K V : Type 0} (order : K → K → Ordering) (total : IsTotalOrder order) (exact : (x y : K) → order x y ≡ Equal → x ≡ y) where
  tabled_rises : (f : K → Option V) (ks : List K) → T (is_sorted order (tabled order f ks))
  tabled_rises f [] = tt
  tabled_rises f (k ∷ ks) = put_some_sorted order total k (f k) (tabled order f ks) (tabled_rises f ks)

  pub tabled_sorted : (f : K → Option V) (ks : List K) → IsTrue (is_sorted order (tabled order f ks))
  tabled_sorted f ks = as_true _ (tabled_rises f ks)

  or_none : (o r : Option V) → (o ≡ None → r ≡ None) → or_else o r ≡ o
  or_none None r h = h refl
  or_none (Some x) r h = refl

  -- what is found there, at a key that is one of these or at which the function gives nothing
  pub find_tabled : (f : K → Option V) (ks : List K) (q : K) → (list_any (eq_by_cmp order q) ks ≡ false → f q ≡ None) → find order q (tabled order f ks) ≡ f q
  find_tabled f [] q none = sym (none refl)
  find_tabled f (k ∷ ks) q none =
      find_put_some order total q k (f k) (tabled order f ks)
      ∙ elim (eq_by_cmp order q k) as (λ b. eq_by_cmp order q k ≡ b → cond b (or_else (f k) (find order q (tabled order f ks))) (find order q (tabled order f ks)) ≡ f q) [
        | true ↦ λ is. subst (λ x. or_else (f x) (find order q (tabled order f ks)) ≡ f q) (exact q k ((Equal-is (order q k)).0 is)) (or_none (f q) (find order q (tabled order f ks)) (λ e. find_tabled f ks q (λ h. e) ∙ e))
        | false ↦ λ is. find_tabled f ks q (λ h. none (ap (λ b. b || list_any (eq_by_cmp order q) ks) is ∙ h))
      ] refl

  -- two maps that hold the same at each key are the same
  pub same_entries_at : (es fs : List (K × V)) → IsTrue (is_sorted order es) → IsTrue (is_sorted order fs) → ((q : K) → find order q es ≡ find order q fs) → es ≡ fs
  same_entries_at es fs g h is = same_entries order total exact es fs (truth _ g) (truth _ h) is

  -- a map that holds what the function gives is this one
  pub is_tabled : (f : K → Option V) (ks : List K) (es : List (K × V)) → IsTrue (is_sorted order es) → ((q : K) → list_any (eq_by_cmp order q) ks ≡ false → f q ≡ None)
      → ((q : K) → find order q es ≡ f q) → es ≡ tabled order f ks
  is_tabled f ks es rising none is = same_entries_at es (tabled order f ks) rising (tabled_sorted f ks) (λ q. is q ∙ sym (find_tabled f ks q (none q)))

  -- two functions that give the same make the same map
  pub same_tabled : (f g : K → Option V) (ks ls : List K) → ((q : K) → list_any (eq_by_cmp order q) ks ≡ false → f q ≡ None) → ((q : K) → list_any (eq_by_cmp order q) ls ≡ false → g q ≡ None)
      → ((q : K) → f q ≡ g q) → tabled order f ks ≡ tabled order g ls
  same_tabled f g ks ls nf ng is = is_tabled g ls (tabled order f ks) (tabled_sorted f ks) ng (λ q. find_tabled f ks q (nf q) ∙ is q)
