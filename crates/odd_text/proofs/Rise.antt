-- Tables whose keys rise, a pair more or less at their end.
use Rattle.std.proofs.Common.{◌≡◌, Bool, true, false, ◌&&◌, List, [], ◌∷◌, ◌++◌, T}
use Rattle.std.specs.Cmp.{IsTotalOrder}
use Rattle.std.specs.FinMap.{is_sorted}
use Rattle.std.specs.FinMap.Entries.{below_all}
use Rattle.std.specs.List.{AllByRecursion}
use Rattle.std.specs.Prelude.{IsTrue}
use Rattle.std.specs.declared.cmp.Ordering.{Ordering}
use Rattle.std.specs.declared.cmp.Ordering.TheVariants.{Less}
use Rattle.odd_text.proofs.Entries.{as_IsTrue, as_T, first, is_less, second}
use Rattle.odd_text.specs.Above.{IsAboveLast}

both : (a b : Bool) → T a → T b → T (a && b)
both true b h k = k
both false b h k = absurd h

all_front : {A : Type 0} (P : A → Type 0) (xs ys : List A) → AllByRecursion P (xs ++ ys) → AllByRecursion P xs
all_front P [] ys h = tt
all_front P (x ∷ xs) ys h = (h.0, all_front P xs ys h.1)

all_push : {A : Type 0} (P : A → Type 0) (xs : List A) (y : A) → AllByRecursion P xs → P y → AllByRecursion P (xs ++ y ∷ [])
all_push P [] y h p = (p, tt)
all_push P (x ∷ xs) y h p = (h.0, all_push P xs y h.1 p)

all_mid : {A : Type 0} (P : A → Type 0) (xs : List A) (y : A) (ys : List A) → AllByRecursion P (xs ++ y ∷ ys) → P y
all_mid P [] y ys h = h.0
all_mid P (x ∷ xs) y ys h = all_mid P xs y ys h.1

module _ {K V : Type 0} (R : K → K → Ordering) where
  -- the key is above every key
  abbrev pub IsAboveAll : List (K × V) → K → Type 0
  IsAboveAll es key = AllByRecursion (λ e. R e.0 key ≡ Less) es

  -- the key is below every key
  abbrev pub IsBelowAll : K → List (K × V) → Type 0
  IsBelowAll key es = AllByRecursion (λ e. R key e.0 ≡ Less) es

  abbrev pub Rises : List (K × V) → Type 0
  Rises [] = Unit {0}
  Rises (e ∷ es) = IsBelowAll e.0 es × Rises es

  below_of : (x : K) (es : List (K × V)) → T (below_all R x es) → IsBelowAll x es
  below_of x [] h = tt
  below_of x (e ∷ es) h = (is_less _ (first _ _ h), below_of x es (second _ _ h))

  below_is : (x : K) (es : List (K × V)) → IsBelowAll x es → T (below_all R x es)
  below_is x [] h = tt
  below_is x (e ∷ es) h = both _ _ (rw h.0 tt) (below_is x es h.1)

  rises_T : (es : List (K × V)) → T (is_sorted R es) → Rises es
  rises_T [] h = tt
  rises_T (e ∷ es) h = (below_of e.0 es (first _ _ h), rises_T es (second _ _ h))

  rises_is : (es : List (K × V)) → Rises es → T (is_sorted R es)
  rises_is [] h = tt
  rises_is (e ∷ es) h = both _ _ (below_is e.0 es h.0) (rises_is es h.1)

  -- sorted entries rise
  pub rises_of : (es : List (K × V)) → IsTrue (is_sorted R es) → Rises es
  rises_of es h = rises_T es (as_T _ h)

  rises_front : (es fs : List (K × V)) → Rises (es ++ fs) → Rises es
  rises_front [] fs h = tt
  rises_front (e ∷ es) fs h = (all_front (λ (f : K × V). R e.0 f.0 ≡ Less) es fs h.0, rises_front es fs h.1)

  rises_push : (es : List (K × V)) (k : K) (v : V) → Rises es → IsAboveAll es k → Rises (es ++ (k, v) ∷ [])
  rises_push [] k v h a = (tt, tt)
  rises_push (e ∷ es) k v h a = (all_push (λ (f : K × V). R e.0 f.0 ≡ Less) es (k, v) h.0 a.0, rises_push es k v h.1 a.1)

  -- a key that is above every key is above one more below it
  pub above_push : (es : List (K × V)) (k q : K) (v : V) → IsAboveAll es k → R q k ≡ Less → IsAboveAll (es ++ (q, v) ∷ []) k
  above_push es k q v a h = all_push (λ (f : K × V). R f.0 k ≡ Less) es (q, v) a h

  -- of keys that rise one is above all before it
  pub above_before : (es rest : List (K × V)) (k : K) (v : V) → Rises (es ++ (k, v) ∷ rest) → IsAboveAll es k
  above_before [] rest k v h = tt
  above_before (e ∷ es) rest k v h = (all_mid (λ (f : K × V). R e.0 f.0 ≡ Less) es (k, v) rest h.0, above_before es rest k v h.1)

  -- above every key is above the last
  pub above_last : (es : List (K × V)) (k : K) → IsAboveAll es k → IsAboveLast R es k
  above_last [] k a = tt
  above_last (e ∷ []) k a = a.0
  above_last (e ∷ f ∷ es) k a = above_last (f ∷ es) k a.1

  -- and where the keys rise, above the last is above every key
  pub above_all : IsTotalOrder R → (es : List (K × V)) (k : K) → Rises es → IsAboveLast R es k → IsAboveAll es k
  above_all o [] k h a = tt
  above_all o (e ∷ []) k h a = (a, tt)
  above_all o (e ∷ f ∷ es) k h a = let rest = above_all o (f ∷ es) k h.1 a in (o.trans e.0 f.0 k h.0.0 rest.0, rest)

  -- a front of sorted entries is sorted
  pub sorted_front : (es fs : List (K × V)) → IsTrue (is_sorted R (es ++ fs)) → IsTrue (is_sorted R es)
  sorted_front es fs h = as_IsTrue _ (rises_is es (rises_front es fs (rises_of (es ++ fs) h)))

  -- and they stay sorted with a pair above the last
  pub sorted_push : IsTotalOrder R → (es : List (K × V)) (k : K) (v : V) → IsTrue (is_sorted R es) → IsAboveLast R es k → IsTrue (is_sorted R (es ++ (k, v) ∷ []))
  sorted_push o es k v h a = as_IsTrue _ (rises_is (es ++ (k, v) ∷ []) (rises_push es k v (rises_of es h) (above_all o es k (rises_of es h) a)))
