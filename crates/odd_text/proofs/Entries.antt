-- Entries in rising order of key: what a search finds among them, and what an edit there does.
use Rattle.std.proofs.Common.{◌≡◌, ℕ, suc, zero, ◌<◌, ◌≤◌, ◌-◌, Bool, true, false, ◌&&◌, List, [], ◌∷◌, cond, length, get_or, set, T, Some, None, Result, Ok, Err, IfOk, IfErr, refl, sym, ap, subst, ◌∙◌, arith, inl, inr}
use Rattle.std.specs.Prelude.{IsTrue}
use Rattle.std.specs.List.{Contains, insert}
use Rattle.std.specs.List.Sorted.{IsSearchInRange, IsBinarySearchResult, IsNonDecreasingBy}
use Rattle.std.specs.Map.{lookup}
use Rattle.std.specs.Ordering.{eq_by_cmp, is_lt, ordering_index, ordering_reverse}
use Rattle.std.specs.Cmp.{IsTotalOrder}
use Rattle.std.specs.FinMap.{find, put, is_sorted}
use Rattle.std.specs.FinMap.Entries.{below_all, find-put, is_sorted-put, same_entries}
use Rattle.std.specs.declared.cmp.Ordering.{Ordering}
use Rattle.std.specs.declared.cmp.Ordering.TheVariants.{Less, Equal, Greater}
use Rattle.std.proofs.lemmas.Bool.{cases_lt}
use Rattle.std.proofs.lemmas.Map.Views.{Contains-from_lookup, tells_apart}
use Rattle.odd_text.specs.Map.{IsAfter, IsAt, IsGap, SetsOnly}

pub first : (a b : Bool) → T (a && b) → T a
first true b h = tt
first false b h = h

pub second : (a b : Bool) → T (a && b) → T b
second true b h = h
second false b h = absurd h

pub as_T : (b : Bool) → IsTrue b → T b
as_T b h = subst T (sym h) tt

pub as_IsTrue : (b : Bool) → T b → IsTrue b
as_IsTrue true h = refl
as_IsTrue false h = absurd h

pub is_less : (o : Ordering) → T (is_lt o) → o ≡ Less
is_less Less h = refl
is_less Equal h = absurd h
is_less Greater h = absurd h

module _ {K V : Type 0} (R : K → K → Ordering) where
  below_at : (x : K) (es : List (K × V)) (j : ℕ) (d : K × V) → T (below_all R x es) → j < length es → R x (get_or es j d).0 ≡ Less
  below_at x [] j d h l = absurd (omega arith)
  below_at x (e ∷ es) zero d h l = is_less _ (first _ _ h)
  below_at x (e ∷ es) (suc j) d h l = below_at x es j d (second _ _ h) (omega arith)

  -- the keys rise
  pub rising : (es : List (K × V)) → T (is_sorted R es) → (i j : ℕ) (d : K × V) → i < j → j < length es → R (get_or es i d).0 (get_or es j d).0 ≡ Less
  rising [] h i j d l m = absurd (omega arith)
  rising (e ∷ es) h i zero d l m = absurd (omega arith)
  rising (e ∷ es) h zero (suc j) d l m = below_at e.0 es j d (first _ _ h) (omega arith)
  rising (e ∷ es) h (suc i) (suc j) d l m = rising es (second _ _ h) i j d (omega arith) (omega arith)

module _ {K : Type 0} (R : K → K → Ordering) (o : IsTotalOrder R) where
  turned : (x y : K) (r : Ordering) → R x y ≡ r → R y x ≡ ordering_reverse r
  turned x y r e = o.antisymm y x ∙ ap ordering_reverse e

  -- the comparisons with k rise along the entries
  rank_rises : (k x y : K) → R x y ≡ Less → ordering_index (R x k) ≤ ordering_index (R y k)
  rank_rises k x y l =
      elim (R y k) as (λ r. R y k ≡ r → ordering_index (R x k) ≤ ordering_index r) [
        | Less ↦ λ p. rw (o.trans x y k l p) (omega arith)
        | Equal ↦ λ p. rw (o.antisymm x k ∙ ap ordering_reverse (o.congr k y x (turned y k Equal p) ∙ turned x y Less l)) (omega arith)
        | Greater ↦ λ p. at_most_two (R x k)
      ] refl
    where
      at_most_two : (r : Ordering) → ordering_index r ≤ 2
      at_most_two Less = omega arith
      at_most_two Equal = omega arith
      at_most_two Greater = omega arith

module _ {K V : Type 0} (R : K → K → Ordering) (o : IsTotalOrder R) where
  module _ (es : List (K × V)) (sorted : IsTrue (is_sorted R es)) (k : K) where
    ranks_rise : IsNonDecreasingBy (λ e. ordering_index (R e.0 k)) es
    ranks_rise i j d le within =
        elim (cases_lt i j) [
          | inl lt ↦ rank_rises R o k _ _ (rising R es (as_T _ sorted) i j d lt within)
          | inr ge ↦ let same : i ≡ j = omega arith in rw same (omega arith)
        ]

    -- where a binary search ends
    pub searched : (r : Result ℕ ℕ) → IsSearchInRange r (length es) → IsBinarySearchResult (λ e. R e.0 k) es r → record { found : IfOk r (IsAt R k es); absent : IfErr r (IsGap R k es) }
    searched (Ok at) within equal = record {
      found = record {
        within = within;
        after = λ j d lt. turned R o _ k Less (o.antisymm _ k ∙ ap ordering_reverse (o.congr k (get_or es at d).0 _ (turned R o _ k Equal (equal d)) ∙ turned R o _ _ Less (rising R es (as_T _ sorted) j at d lt within)));
        here = λ d. turned R o _ k Equal (equal d);
      };
      absent = tt;
    }
    searched (Err at) within parted = record {
      found = tt;
      absent = record {
        within = within;
        after = λ j d lt. turned R o _ k Less ((parted ranks_rise).0 j d (omega arith) lt);
        before = λ j d le lt. turned R o _ k Greater ((parted ranks_rise).1 j d le lt);
      };
    }

    -- a key above that of the last entry has its gap at the end
    pub above_last : (last : K × V) → 0 < length es → ((d : K × V) → last ≡ get_or es (length es - 1) d) → IsTrue (is_lt (R last.0 k)) → IsGap R k es (length es)
    above_last last some there above = record {
      within = omega arith;
      after = λ j d lt. turned R o _ k Less (below j d lt);
      before = λ j d le lt. absurd (omega arith);
    }
      where
        ends_below : (d : K × V) → R (get_or es (length es - 1) d).0 k ≡ Less
        ends_below d = ap (λ (e : K × V). R e.0 k) (sym (there d)) ∙ is_less _ (as_T _ above)

        below : (j : ℕ) (d : K × V) → j < length es → R (get_or es j d).0 k ≡ Less
        below j d lt =
            elim (cases_lt j (length es - 1)) [
              | inl before ↦ o.trans _ _ k (rising R es (as_T _ sorted) j (length es - 1) d before (omega arith)) (ends_below d)
              | inr after ↦ let same : j ≡ length es - 1 = omega arith in rw same (ends_below d)
            ]

  -- what is found at the place of a key
  pub find_at : (k : K) (es : List (K × V)) (at : ℕ) (d : K × V) → at < length es → IsAfter R k es at → R k (get_or es at d).0 ≡ Equal → find R k es ≡ Some (get_or es at d).1
  find_at k [] at d w a e = absurd (omega arith)
  find_at k (f ∷ es) zero d w a e = rw e
  find_at k (f ∷ es) (suc at) d w a e =
      let g : R k f.0 ≡ Greater = a 0 f (omega arith) in
      rw g (find_at k es at d (omega arith) (λ j c l. a (suc j) c (omega arith)) e)

  -- what is found at a key is the value of an entry there
  find_looked_up : (k : K) (es : List (K × V)) → find R k es ≡ lookup (eq_by_cmp R k) es
  find_looked_up k [] = refl
  find_looked_up k (e ∷ es) = ap (cond (eq_by_cmp R k e.0) (Some e.1)) (find_looked_up k es)

  pub found_contained : ((x y : K) → R x y ≡ Equal → x ≡ y) → (k : K) (v : V) (es : List (K × V)) → find R k es ≡ Some v → Contains es (k, v)
  found_contained exact k v es h = Contains-from_lookup (tells_apart exact) k v es (sym (find_looked_up k es) ∙ h)

  -- nothing is found at a key that has a gap
  pub find_gap : (k : K) (es : List (K × V)) (at : ℕ) → IsGap R k es at → find R k es ≡ None
  find_gap k [] at gap = refl
  find_gap k (f ∷ es) zero gap =
      let l : R k f.0 ≡ Less = gap.before 0 f (omega arith) (omega arith) in
      rw l (find_gap k es 0 (record { within = omega arith; after = λ j d m. absurd (omega arith); before = λ j d m n. gap.before (suc j) d (omega arith) (omega arith) }))
  find_gap k (f ∷ es) (suc at) gap =
      let g : R k f.0 ≡ Greater = gap.after 0 f (omega arith) in
      rw g (find_gap k es at (record { within = omega (arith, gap.within); after = λ j d m. gap.after (suc j) d (omega arith); before = λ j d m n. gap.before (suc j) d (omega arith) (omega arith) }))

  -- an entry that goes into its gap is put
  pub put_gap : (k : K) (v : V) (es : List (K × V)) (at : ℕ) → at ≤ length es → IsAfter R k es at → ((d : K × V) → at < length es → R k (get_or es at d).0 ≡ Less) → insert es at (k, v) ≡ put R k v es
  put_gap k v [] zero w a b = refl
  put_gap k v [] (suc n) w a b = absurd (omega arith)
  put_gap k v (e ∷ es) zero w a b = let h : R k e.0 ≡ Less = b e (omega arith) in rw h
  put_gap k v (e ∷ es) (suc n) w a b =
      let h : R k e.0 ≡ Greater = a 0 e (omega arith) in
      rw h (ap (λ xs. e ∷ xs) (put_gap k v es n (omega arith) (λ j d l. a (suc j) d (omega arith)) (λ d l. b d (omega arith))))

  -- a value that is written over that of its key is put
  pub put_at : (k : K) (v : V) (es : List (K × V)) (at : ℕ) (d : K × V) → at < length es → IsAfter R k es at → R k (get_or es at d).0 ≡ Equal → set es at ((get_or es at d).0, v) ≡ put R k v es
  put_at k v [] n d w a b = absurd (omega arith)
  put_at k v (e ∷ es) zero d w a b = rw b
  put_at k v (e ∷ es) (suc n) d w a b =
      let h : R k e.0 ≡ Greater = a 0 e (omega arith) in
      rw h (ap (λ xs. e ∷ xs) (put_at k v es n d (omega arith) (λ j f l. a (suc j) f (omega arith)) b))

  -- the entries after a put hold the value at the key, and at every other what they held
  pub put_sets : (k : K) (v : V) (es fs : List (K × V)) → fs ≡ put R k v es → SetsOnly R es fs k v
  put_sets k v es fs e asked = ap (find R asked) e ∙ find-put R o asked k v es

  pub put_rises : (k : K) (v : V) (es fs : List (K × V)) → IsTrue (is_sorted R es) → fs ≡ put R k v es → IsTrue (is_sorted R fs)
  put_rises k v es fs h e = rw e (as_IsTrue _ (is_sorted-put R o k v es (as_T _ h)))

  -- two maps that hold the same at each key are the same
  pub same_map : ((x y : K) → R x y ≡ Equal → x ≡ y) → (es fs : List (K × V)) → IsTrue (is_sorted R es) → IsTrue (is_sorted R fs) → ((q : K) → find R q es ≡ find R q fs) → es ≡ fs
  same_map exact es fs g h is = same_entries R o exact es fs (as_T _ g) (as_T _ h) is

  -- an edit of the entries at the place of the key
  module _ (k : K) (v : V) (es fs : List (K × V)) (at : ℕ) where
    pub written : (d : K × V) → IsAt R k es at → d ≡ get_or es at d → fs ≡ set es at (d.0, v) → fs ≡ put R k v es
    written d is here e = e ∙ ap (λ (p : K × V). set es at (p.0, v)) here ∙ put_at k v es at d is.within is.after (is.here d)

    pub inserted : IsGap R k es at → fs ≡ insert es at (k, v) → fs ≡ put R k v es
    inserted gap e = e ∙ put_gap k v es at gap.within gap.after (λ d l. gap.before at d (omega arith) l)
