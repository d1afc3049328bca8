-- What marks make of words is a set, and what holds of the keys of two maps holds of those of the map that is made of both.
use Rattle.std.proofs.Common.{◌≡◌, ◌≢◌, ◌↔◌, ◌⊎◌, ℕ, Bool, true, false, List, [], ◌∷◌, ◌++◌, Option, Some, None, T, ⊎_elim, inl, inr, refl, sym, ap, subst, ◌∙◌}
use Rattle.std.proofs.lemmas.Cmp.{eq_by_cmp_equiv, nat_list_cmp_total}
use Rattle.std.proofs.lemmas.List.Elements.{All-append, All-cons, All-head, All-map, All-nil, All-tail}
use Rattle.std.proofs.lemmas.Map.Views.{Contains-from_any, list_any-from_Contains, tells_apart}
use Rattle.std.specs.FinMap.{find, is_sorted, put, slice_cmp-IsAntisymmetric, nat_cmp-IsAntisymmetric}
use Rattle.std.specs.FinMap.Entries.{below_all, by_order, is_some-find}
use Rattle.std.specs.Option.{IfSome, is_some}
use Rattle.std.specs.Prelude.{All, IsTrue}
use Rattle.std.specs.declared.cmp.Ordering.{Ordering}
use Rattle.std.specs.declared.cmp.Ordering.TheVariants.{Less, Equal, Greater}
use Rattle.odd_text.proofs.Entries.{as_T, first, is_less, second}
use Rattle.odd_text.specs.Text.{text_cmp}
use Rattle.odd_text.proofs.InList.{contained, first_or_later, nothing_stands, standing}
use Rattle.odd_text.specs.Standing.{StandsIn}
use Rattle.odd_text.proofs.SetOf.{none_rising, rising_more, set_same}
use Rattle.odd_text.specs.Sorted.{AreRising, IsSet}
use Rattle.odd_overlay.specs.Marks.{IsWordAfter, mark_laid, word_entries, words_laid}
use Rattle.odd_overlay.specs.Overlaid.{find_zipped, laid_at, laid_maps, zipped}
use Rattle.odd_overlay.specs.Tabled.{keys_of, or_else, put_some, tabled, tabled_sorted}

module _ {K V : Type 0} (order : K → K → Ordering) where
  keys_below : (k : K) (es : List (K × V)) → T (below_all order k es) → (q : K) → StandsIn (keys_of es) q → order k q ≡ Less
  keys_below k [] h q s = absurd (nothing_stands q s)
  keys_below k (e ∷ es) h q s =
      ⊎_elim (λ is. subst (λ w. order k w ≡ Less) (sym is) (is_less _ (first _ _ h))) (λ later. keys_below k es (second _ _ h) q later) (first_or_later e.0 q (keys_of es) s)

  -- the keys of a map rise
  keys_rising : (es : List (K × V)) → T (is_sorted order es) → AreRising order (keys_of es)
  keys_rising [] h = none_rising order
  keys_rising (e ∷ es) h = rising_more order e.0 (keys_of es) (keys_below e.0 es (first _ _ h)) (keys_rising es (second _ _ h))

  -- an entry more, whose key is such
  pub put_keyed : (P : K → Type 0) (k : K) (v : V) (es : List (K × V)) → P k → All (λ (e : K × V). P e.0) es → All (λ (e : K × V). P e.0) (put order k v es)
  put_keyed P k v [] here all = All-cons (λ (e : K × V). P e.0) (k, v) [] here all
  put_keyed P k v (e ∷ es) here all = by (order k e.0) (put_keyed P k v es here (All-tail (λ (e : K × V). P e.0) e es all))
    where
      Of : K × V → Type 0
      Of f = P f.0

      by : (o : Ordering) → All Of (put order k v es) → All Of (by_order o ((k, v) ∷ e ∷ es) ((e.0, v) ∷ es) (e ∷ put order k v es))
      by Less later = All-cons Of (k, v) (e ∷ es) here all
      by Equal later = All-cons Of (e.0, v) es (All-head Of e es all) (All-tail Of e es all)
      by Greater later = All-cons Of e (put order k v es) (All-head Of e es all) later

  tabled_keyed : (P : K → Type 0) (f : K → Option V) (ks : List K) → All P ks → All (λ (e : K × V). P e.0) (tabled order f ks)
  tabled_keyed P f [] all = All-nil (λ (e : K × V). P e.0)
  tabled_keyed P f (k ∷ ks) all = by (f k) (tabled_keyed P f ks (All-tail P k ks all))
    where
      by : (v : Option V) → All (λ (e : K × V). P e.0) (tabled order f ks) → All (λ (e : K × V). P e.0) (put_some order k v (tabled order f ks))
      by None rest = rest
      by (Some v) rest = put_keyed P k v (tabled order f ks) (All-head P k ks all) rest

-- the keys of a map that is made of two are keys of these
pub zipped_keyed : {K A B C : Type 0} (order : K → K → Ordering) (f : Option A → Option B → Option C) (P : K → Type 0) (xs : List (K × A)) (ys : List (K × B))
    → All (λ (x : K × A). P x.0) xs → All (λ (y : K × B). P y.0) ys → All (λ (z : K × C). P z.0) (zipped order f xs ys)
zipped_keyed {K} {A} {B} order f P xs ys these others =
    tabled_keyed order P (λ k. f (find order k xs) (find order k ys)) (keys_of xs ++ keys_of ys)
    (All-append P (keys_of xs) (keys_of ys) (All-map P (λ (x : K × A). x.0) xs these) (All-map P (λ (y : K × B). y.0) ys others))

-- and they rise
pub zipped_rises : {A B C : Type 0} (f : Option A → Option B → Option C) (xs : List (List ℕ × A)) (ys : List (List ℕ × B)) → IsTrue (is_sorted text_cmp (zipped text_cmp f xs ys))
zipped_rises f xs ys =
    tabled_sorted text_cmp nat_list_cmp_total (slice_cmp-IsAntisymmetric nat_cmp-IsAntisymmetric) (λ k. f (find text_cmp k xs) (find text_cmp k ys)) (keys_of xs ++ keys_of ys)

-- what holds of two values, where they are given, holds of the one that is taken
pub or_else_holds : {A : Type 0} (P : A → Type 0) (a b : Option A) → IfSome a P → IfSome b P → IfSome (or_else a b) P
or_else_holds P None b here there = there
or_else_holds P (Some x) b here there = here

words_keyed : (P : List ℕ → Type 0) (words : List (List ℕ)) → All P words → All (λ (e : List ℕ × Unit {0}). P e.0) (word_entries words)
words_keyed P [] all = All-nil (λ (e : List ℕ × Unit {0}). P e.0)
words_keyed P (word ∷ words) all = All-cons (λ (e : List ℕ × Unit {0}). P e.0) (word, tt) (word_entries words) (All-head P word words all) (words_keyed P words (All-tail P word words all))

-- what holds of the words and of those that are put in holds of what is made
pub laid_keyed : (P : List ℕ → Type 0) (marks : List (List ℕ × Bool)) (words : List (List ℕ)) → All (λ (mark : List ℕ × Bool). P mark.0) marks → All P words → All P (words_laid marks words)
laid_keyed P marks words marked all =
    All-map P (λ (e : List ℕ × Unit {0}). e.0) (laid_maps text_cmp mark_laid marks (word_entries words)) (zipped_keyed text_cmp (laid_at mark_laid) P marks (word_entries words) marked (words_keyed P words all))

entry_words : (words : List (List ℕ)) → keys_of (word_entries words) ≡ words
entry_words [] = refl
entry_words (word ∷ words) = ap (λ ws. word ∷ ws) (entry_words words)

-- a word is a key of a map exactly where something is found there
key_stands : {V : Type 0} (es : List (List ℕ × V)) (q : List ℕ) → (is_some (find text_cmp q es) ≡ true) ↔ StandsIn (keys_of es) q
key_stands es q =
    let any = is_some-find text_cmp q es in
    let exact = slice_cmp-IsAntisymmetric nat_cmp-IsAntisymmetric in (
      λ h. standing (keys_of es) q (Contains-from_any (tells_apart exact) q (keys_of es) (sym any ∙ h)),
      λ s. any ∙ list_any-from_Contains (eq_by_cmp_equiv nat_list_cmp_total) q (keys_of es) (contained (keys_of es) q s),
    )

-- what a mark makes of a word
mark_makes : (mark : Option Bool) (there : Option (Unit {0})) (Stands : Type 0) → (is_some there ≡ true) ↔ Stands
    → (is_some (laid_at mark_laid mark there) ≡ true) ↔ ((Stands × (mark ≢ Some false)) ⊎ (mark ≡ Some true))
mark_makes None there Stands is = (λ h. inl (is.0 h, λ e. cc), λ w. ⊎_elim (λ h. is.1 h.0) (λ e. cc) w)
mark_makes (Some true) there Stands is = (λ h. inr refl, λ w. refl)
mark_makes (Some false) there Stands is = (λ h. cc, λ w. ⊎_elim (λ h. absurd (h.1 refl)) (λ e. cc) w)

-- what marks make of words is the set of the words that were there and are not taken out, and of those that are put in
pub laid_set : (marks : List (List ℕ × Bool)) (words : List (List ℕ)) → IsSet text_cmp (IsWordAfter marks words) (words_laid marks words)
laid_set marks words =
    let exact = slice_cmp-IsAntisymmetric nat_cmp-IsAntisymmetric in
    let made = laid_maps text_cmp mark_laid marks (word_entries words) in
    set_same text_cmp (StandsIn (keys_of made)) (IsWordAfter marks words) (keys_of made) (λ word.
    let stands = subst (λ ws. (is_some (find text_cmp word (word_entries words)) ≡ true) ↔ StandsIn ws word) (entry_words words) (key_stands (word_entries words) word) in
    let by = mark_makes (find text_cmp word marks) (find text_cmp word (word_entries words)) (StandsIn words word) stands in
    let found = ap is_some (find_zipped text_cmp nat_list_cmp_total exact (laid_at mark_laid) refl marks (word_entries words) word) in
    let key = key_stands made word in
    (λ s. by.0 (sym found ∙ key.1 s), λ is. key.0 (found ∙ by.1 is)))
    (record {
      rising = keys_rising text_cmp made (as_T _ (zipped_rises (laid_at mark_laid) marks (word_entries words)));
      none_else = λ q s. s;
      each = λ q s. s;
    })
