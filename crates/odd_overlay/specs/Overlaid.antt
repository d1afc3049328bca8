-- Maps of edits by key: what two of them are as one, and what one makes of a map of bases.
use Rattle.std.specs.Prelude.{◌≡◌, Bool, true, false, ◌||◌, List, [], ◌∷◌, ◌++◌, Option, Some, None, is_some, IsTrue, refl}
use Rattle.std.proofs.Common.{sym, ap, ◌∙◌}
use Rattle.std.specs.Cmp.{IsTotalOrder}
use Rattle.std.specs.FinMap.{find, is_sorted}
use Rattle.std.specs.FinMap.Entries.{is_some-find}
use Rattle.std.specs.List.{list_any}
use Rattle.std.specs.Ordering.{eq_by_cmp}
use Rattle.std.specs.declared.cmp.Ordering.{Ordering}
use Rattle.std.specs.declared.cmp.Ordering.TheVariants.{Equal}
use Rattle.odd_overlay.specs.Tabled.{keys_of, tabled, find_tabled, same_tabled, is_tabled}

-- two edits of one key as one, where there are such
abbrev pub joined_at : {E : Type 0} → (E → E → E) → Option E → Option E → Option E
joined_at joined None b = b
joined_at joined (Some a) None = Some a
joined_at joined (Some a) (Some b) = Some (joined a b)

-- what an edit, where there is one, makes of what there is
abbrev pub laid_at : {E B : Type 0} → (E → Option B → Option B) → Option E → Option B → Option B
laid_at laid None x = x
laid_at laid (Some e) x = laid e x

-- at each key of two maps what is made of their values there
abbrev pub zipped : {K A B C : Type 0} → (K → K → Ordering) → (Option A → Option B → Option C) → List (K × A) → List (K × B) → List (K × C)
zipped order f xs ys = tabled order (λ k. f (find order k xs) (find order k ys)) (keys_of xs ++ keys_of ys)

-- two maps of edits as one
abbrev pub joined_maps : {K E : Type 0} → (K → K → Ordering) → (E → E → E) → List (K × E) → List (K × E) → List (K × E)
joined_maps order joined a b = zipped order (joined_at joined) a b

-- what a map of edits makes of a map
abbrev pub laid_maps : {K E B : Type 0} → (K → K → Ordering) → (E → Option B → Option B) → List (K × E) → List (K × B) → List (K × B)
laid_maps order laid es ds = zipped order (laid_at laid) es ds

-- three edits of one key are one, however they are grouped
pub regrouped_at : {E : Type 0} (joined : E → E → E) → ((x y z : E) → joined (joined x y) z ≡ joined x (joined y z)) → (x y z : Option E) → joined_at joined (joined_at joined x y) z ≡ joined_at joined x (joined_at joined y z)
regrouped_at joined law None y z = refl
regrouped_at joined law (Some x) None z = refl
regrouped_at joined law (Some x) (Some y) None = refl
regrouped_at joined law (Some x) (Some y) (Some z) = ap Some (law x y z)

-- to lay one edit and then another is to lay the two as one
pub one_by_one_at : {E B : Type 0} (joined : E → E → E) (laid : E → Option B → Option B) → ((a b : E) (x : Option B) → laid b (laid a x) ≡ laid (joined a b) x) → (a b : Option E) (x : Option B) → laid_at laid b (laid_at laid a x) ≡ laid_at laid (joined_at joined a b) x
one_by_one_at joined laid law None b x = refl
one_by_one_at joined laid law (Some a) None x = refl
one_by_one_at joined laid law (Some a) (Some b) x = law a b x

list_any_append : {A : Type 0} (p : A → Bool) (xs ys : List A) → list_any p (xs ++ ys) ≡ (list_any p xs || list_any p ys)
list_any_append p [] ys = refl
list_any_append p (x ∷ xs) ys = elim (p x) as (λ b. (b || list_any p (xs ++ ys)) ≡ ((b || list_any p xs) || list_any p ys)) [ true ↦ refl | false ↦ list_any_append p xs ys ]

neither : (a b : Bool) → (a || b) ≡ false → (a ≡ false) × (b ≡ false)
neither true b e = cc
neither false b e = (refl, e)

is_none : {A : Type 0} (o : Option A) → is_some o ≡ false → o ≡ None
is_none None e = refl
is_none (Some x) e = cc

module _ {K : Type 0} (order : K → K → Ordering) (total : IsTotalOrder order) (exact : (x y : K) → order x y ≡ Equal → x ≡ y) where
  none_there : {A B C : Type 0} (f : Option A → Option B → Option C) → f None None ≡ None → (xs : List (K × A)) (ys : List (K × B)) (q : K)
      → list_any (eq_by_cmp order q) (keys_of xs ++ keys_of ys) ≡ false → f (find order q xs) (find order q ys) ≡ None
  none_there f none xs ys q h =
      let both = neither _ _ (sym (list_any_append (eq_by_cmp order q) (keys_of xs) (keys_of ys)) ∙ h) in
      let a = is_none (find order q xs) (is_some-find order q xs ∙ both.0) in
      let b = is_none (find order q ys) (is_some-find order q ys ∙ both.1) in
      ap (λ o. f o (find order q ys)) a ∙ ap (f None) b ∙ none

  -- what is found in it
  pub find_zipped : {A B C : Type 0} (f : Option A → Option B → Option C) → f None None ≡ None → (xs : List (K × A)) (ys : List (K × B)) (q : K)
      → find order q (zipped order f xs ys) ≡ f (find order q xs) (find order q ys)
  find_zipped f none xs ys q = find_tabled order total exact (λ k. f (find order k xs) (find order k ys)) (keys_of xs ++ keys_of ys) q (none_there f none xs ys q)

  -- a map that holds this at each key is this one
  pub is_zipped : {A B C : Type 0} (f : Option A → Option B → Option C) → f None None ≡ None → (xs : List (K × A)) (ys : List (K × B)) (es : List (K × C)) → IsTrue (is_sorted order es)
      → ((q : K) → find order q es ≡ f (find order q xs) (find order q ys)) → es ≡ zipped order f xs ys
  is_zipped f none xs ys es rising is = is_tabled order total exact (λ k. f (find order k xs) (find order k ys)) (keys_of xs ++ keys_of ys) es rising (none_there f none xs ys) is

  -- two such are the same, where they hold the same at each key
  pub same_zipped : {A B C P Q : Type 0} (f : Option A → Option B → Option C) (g : Option P → Option Q → Option C) → f None None ≡ None → g None None ≡ None
      → (xs : List (K × A)) (ys : List (K × B)) (ps : List (K × P)) (qs : List (K × Q))
      → ((q : K) → f (find order q xs) (find order q ys) ≡ g (find order q ps) (find order q qs)) → zipped order f xs ys ≡ zipped order g ps qs
  same_zipped f g nf ng xs ys ps qs is =
      same_tabled order total exact (λ k. f (find order k xs) (find order k ys)) (λ k. g (find order k ps) (find order k qs)) _ _ (none_there f nf xs ys) (none_there g ng ps qs) is

  module _ {E : Type 0} (joined : E → E → E) where
    -- at each key the two edits there as one
    pub find_joined : (a b : List (K × E)) (q : K) → find order q (joined_maps order joined a b) ≡ joined_at joined (find order q a) (find order q b)
    find_joined a b q = find_zipped (joined_at joined) refl a b q

    -- three maps of edits are one, however they are grouped
    pub maps_regrouped : ((x y z : E) → joined (joined x y) z ≡ joined x (joined y z)) → (a b c : List (K × E))
        → joined_maps order joined (joined_maps order joined a b) c ≡ joined_maps order joined a (joined_maps order joined b c)
    maps_regrouped law a b c = same_zipped (joined_at joined) (joined_at joined) refl refl (joined_maps order joined a b) c a (joined_maps order joined b c) (λ q.
        ap (λ o. joined_at joined o (find order q c)) (find_joined a b q)
        ∙ regrouped_at joined law (find order q a) (find order q b) (find order q c)
        ∙ ap (joined_at joined (find order q a)) (sym (find_joined b c q)))

    module _ {B : Type 0} (laid : E → Option B → Option B) where
      -- at each key what the edit there makes of what is there
      pub find_laid : (a : List (K × E)) (x : List (K × B)) (q : K) → find order q (laid_maps order laid a x) ≡ laid_at laid (find order q a) (find order q x)
      find_laid a x q = find_zipped (laid_at laid) refl a x q

      -- to lay one map of edits and then another is to lay the two as one
      pub maps_one_by_one : ((a b : E) (x : Option B) → laid b (laid a x) ≡ laid (joined a b) x) → (a b : List (K × E)) (x : List (K × B))
          → laid_maps order laid b (laid_maps order laid a x) ≡ laid_maps order laid (joined_maps order joined a b) x
      maps_one_by_one law a b x = same_zipped (laid_at laid) (laid_at laid) refl refl b (laid_maps order laid a x) (joined_maps order joined a b) x (λ q.
          ap (laid_at laid (find order q b)) (find_laid a x q)
          ∙ one_by_one_at joined laid law (find order q a) (find order q b) (find order q x)
          ∙ ap (λ o. laid_at laid o (find order q x)) (sym (find_joined a b q)))
