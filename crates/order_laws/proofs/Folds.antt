-- Entries that are put into a map one after the other: where no key is given twice, it does not matter in which order.
use Rattle.std.proofs.Common.{◌≡◌, ⊎_elim, ℕ, Bool, true, false, cond, List, [], ◌∷◌, ◌++◌, map, fold, Option, Some, None, T, refl, sym, ap, ap₂, subst, ◌∙◌}
use Rattle.std.proofs.lemmas.Cmp.{nat_list_cmp_total}
use Rattle.std.proofs.lemmas.List.{map-append}
use Rattle.std.proofs.lemmas.Map.Views.{tells_apart}
use Rattle.std.specs.FinMap.{find, is_sorted, nat_cmp-IsAntisymmetric, put, slice_cmp-IsAntisymmetric}
use Rattle.std.specs.FinMap.Entries.{find-put, is_sorted-put, same_entries}
use Rattle.std.specs.List.{cons_option, filter_map}
use Rattle.std.specs.Ordering.{eq_by_cmp}
use Rattle.std.specs.declared.cmp.Ordering.TheVariants.{Equal}
use Rattle.odd_text.specs.Text.{text_cmp}
use Rattle.odd_text.specs.Standing.{StandsIn}
use Rattle.odd_tree.specs.declared.tree.Tree.{Tree}
use Rattle.odd_text.proofs.InList.{before, after, first_or_later, stands_first, stands_later, stands_map}
use Rattle.odd_text.proofs.InList as standing
use Rattle.odd_text.specs.Standing.{StandsTwice}
use Rattle.order_laws.specs.Reordered.{AreReordered, IsReordered}
use Rattle.order_laws.proofs.Shuffled.{AreShuffled, shuffled_back, stands_left}

-- what is the same of reordered trees is moved as they are
pub moved_by : {A : Type 0} (f : Tree → A) {loose : Bool} {ts us : List Tree} → AreReordered loose ts us → ((t u : Tree) → StandsIn ts t → IsReordered t u → f t ≡ f u) → AreShuffled (map f ts) (map f us)
moved_by f AreReordered.nothing same = AreShuffled.none
moved_by f (AreReordered.next {t = t} {u = u} {ts = ts} earlier later is ordered r rest) same =
    AreShuffled.one (map f earlier) (map f later)
    (ap (map f) is ∙ map-append f earlier (u ∷ later) ∙ ap (λ x. map f earlier ++ x ∷ map f later) (sym (same t u (stands_first t ts) r)))
    (subst (AreShuffled (map f ts)) (map-append f earlier later) (moved_by f rest (λ x y s. same x y (stands_later t x ts s))))

-- Entries that are put

-- the entries with one more, where its key is given
abbrev pub with_key : {V : Type 0} → Option (List ℕ) → V → List (List ℕ × V) → List (List ℕ × V)
with_key None value made = made
with_key (Some key) value made = put text_cmp key value made

-- no value stands twice
abbrev pub NoneTwice : List (List ℕ) → Type 0
NoneTwice values = (value : List ℕ) → StandsTwice (λ v. v ≡ value) values → ⊥

-- a key, where there is one, and a value
abbrev Entry : Type 0 → Type 0
Entry V = Option (List ℕ) × V

-- the two have no key in common
abbrev HaveNone : {V : Type 0} → Entry V → Entry V → Type 0
HaveNone e f = (key : List ℕ) → e.0 ≡ Some key → f.0 ≡ Some key → ⊥

-- no two of the entries have
abbrev AreApart : {V : Type 0} → List (Entry V) → Type 0
AreApart [] = Unit {0}
AreApart {V} (e ∷ es) = ((f : Entry V) → StandsIn es f → HaveNone e f) × AreApart es

-- only equal texts tie
abbrev only_equal : (x y : List ℕ) → text_cmp x y ≡ Equal → x ≡ y
only_equal = slice_cmp-IsAntisymmetric nat_cmp-IsAntisymmetric

module _ {V : Type 0} where
  -- two tests of which one fails may be made in either order
  swapped : (a b : Bool) (x y z : Option V) → (a ≡ true → b ≡ true → ⊥) → cond a x (cond b y z) ≡ cond b y (cond a x z)
  swapped true true x y z apart = absurd (apart refl refl)
  swapped true false x y z apart = refl
  swapped false b x y z apart = refl

  -- entries of two keys may be put in either order
  pub put_commute : (k l : List ℕ) (v w : V) (es : List (List ℕ × V)) → (k ≡ l → ⊥) → T (is_sorted text_cmp es)
      → put text_cmp k v (put text_cmp l w es) ≡ put text_cmp l w (put text_cmp k v es)
  put_commute k l v w es apart up =
      same_entries text_cmp nat_list_cmp_total only_equal (put text_cmp k v (put text_cmp l w es)) (put text_cmp l w (put text_cmp k v es))
      (rises k v (put text_cmp l w es) (rises l w es up)) (rises l w (put text_cmp k v es) (rises k v es up)) (λ q.
      finds q k v (put text_cmp l w es) ∙ ap (cond (eq_by_cmp text_cmp q k) (Some v)) (finds q l w es)
      ∙ swapped (eq_by_cmp text_cmp q k) (eq_by_cmp text_cmp q l) (Some v) (Some w) (find text_cmp q es) (λ a b. apart (sym (tells_apart only_equal q k a) ∙ tells_apart only_equal q l b))
      ∙ sym (ap (cond (eq_by_cmp text_cmp q l) (Some w)) (finds q k v es)) ∙ sym (finds q l w (put text_cmp k v es)))
    where
      rises : (x : List ℕ) (u : V) (fs : List (List ℕ × V)) → T (is_sorted text_cmp fs) → T (is_sorted text_cmp (put text_cmp x u fs))
      rises = is_sorted-put text_cmp nat_list_cmp_total

      finds : (q x : List ℕ) (u : V) (fs : List (List ℕ × V)) → find text_cmp q (put text_cmp x u fs) ≡ cond (eq_by_cmp text_cmp q x) (Some u) (find text_cmp q fs)
      finds = find-put text_cmp nat_list_cmp_total

  -- an entry is put, where it has a key
  abbrev put_entry : List (List ℕ × V) → Entry V → List (List ℕ × V)
  put_entry made e = with_key e.0 e.1 made

  -- the keys still rise
  put_sorted : (e : Entry V) (made : List (List ℕ × V)) → T (is_sorted text_cmp made) → T (is_sorted text_cmp (put_entry made e))
  put_sorted (None, v) made up = up
  put_sorted (Some k, v) made up = is_sorted-put text_cmp nat_list_cmp_total k v made up

  -- two entries that have no key in common may be put in either order
  entries_commute : (e f : Entry V) (made : List (List ℕ × V)) → HaveNone e f → T (is_sorted text_cmp made) → put_entry (put_entry made f) e ≡ put_entry (put_entry made e) f
  entries_commute (None, v) f made apart up = refl
  entries_commute (Some k, v) (None, w) made apart up = refl
  entries_commute (Some k, v) (Some l, w) made apart up = put_commute k l v w made (λ e. apart k refl (ap Some (sym e))) up

  -- an entry may be put before those that stand before it
  put_past : (earlier later : List (Entry V)) (e : Entry V) (made : List (List ℕ × V)) → T (is_sorted text_cmp made) → ((f : Entry V) → StandsIn earlier f → HaveNone e f)
      → fold put_entry made (earlier ++ e ∷ later) ≡ fold put_entry (put_entry made e) (earlier ++ later)
  put_past [] later e made up apart = refl
  put_past (b ∷ earlier) later e made up apart =
      put_past earlier later e (put_entry made b) (put_sorted b made up) (λ f s. apart f (stands_later b f earlier s))
      ∙ ap (λ m. fold put_entry m (earlier ++ later)) (entries_commute e b made (apart b (stands_first b earlier)) up)

  -- entries of which no two have a key in common may be put in any order
  moved_puts : {xs ys : List (Entry V)} → AreShuffled xs ys → AreApart xs → (made : List (List ℕ × V)) → T (is_sorted text_cmp made) → fold put_entry made xs ≡ fold put_entry made ys
  moved_puts AreShuffled.none apart made up = refl
  moved_puts (AreShuffled.one {x = x} earlier later is rest) apart made up =
      moved_puts rest apart.1 (put_entry made x) (put_sorted x made up)
      ∙ sym (put_past earlier later x made up (λ f s. apart.0 f (shuffled_back f rest (stands_left earlier later f s)))) ∙ ap (fold put_entry made) (sym is)

-- Keys that are given

-- what stands later, or stands twice, does so with one item more
stands_more : {A : Type 0} (o : Option A) (xs : List A) (x : A) → StandsIn xs x → StandsIn (cons_option o xs) x
stands_more None xs x s = s
stands_more (Some y) xs x s = stands_later y x xs s

twice_more : {A : Type 0} (Is : A → Type 0) (o : Option A) (xs : List A) → StandsTwice Is xs → StandsTwice Is (cons_option o xs)
twice_more Is None xs w = w
twice_more Is (Some y) xs w = record {
  before = y ∷ w.before;
  first = w.first;
  between = w.between;
  later = w.later;
  after = w.after;
  parts = ap (λ zs. y ∷ zs) w.parts;
  first_is = w.first_is;
  later_is = w.later_is;
}

-- an item that stands in the rest too stands twice
twice_first : {A : Type 0} (x : A) (xs : List A) → StandsIn xs x → StandsTwice (λ y. y ≡ x) (x ∷ xs)
twice_first x xs s = record { before = []; first = x; between = s.0; later = x; after = s.1; parts = ap (λ zs. x ∷ zs) s.2; first_is = refl; later_is = refl }

-- the key of an item is among the keys
key_stands : {A : Type 0} (key : A → Option (List ℕ)) (xs : List A) (x : A) (k : List ℕ) → StandsIn xs x → key x ≡ Some k → StandsIn (filter_map key xs) k
key_stands key [] x k s is = absurd (standing.nothing_stands x s)
key_stands key (y ∷ xs) x k s is =
    ⊎_elim (λ e. subst (λ o. StandsIn (cons_option o (filter_map key xs)) k) (sym is ∙ ap key e) (stands_first k (filter_map key xs)))
    (λ later. stands_more (key y) (filter_map key xs) k (key_stands key xs x k later is)) (first_or_later y x xs s)

-- where no key is given twice among these and others, no two entries have one in common
entries_apart : {A V : Type 0} (key all : A → Option (List ℕ)) (value : A → V) → ((x : A) (k : List ℕ) → key x ≡ Some k → all x ≡ Some k) → (xs : List A) → NoneTwice (filter_map all xs)
    → AreApart (map (λ x. (key x, value x)) xs)
entries_apart key all value among [] none = tt
entries_apart {A} {V} key all value among (x ∷ xs) none = (apart, entries_apart key all value among xs (λ v w. none v (twice_more (λ y. y ≡ v) (all x) (filter_map all xs) w)))
  where
    apart : (f : Entry V) → StandsIn (map (λ y. (key y, value y)) xs) f → HaveNone (key x, value x) f
    apart f s k is at =
        let from = stands_map (λ y. (key y, value y)) xs f s in
        let given : key from.0 ≡ Some k = sym (ap (λ (e : Entry V). e.0) from.2) ∙ at in
        let stands : StandsIn (filter_map all xs) k = key_stands all xs from.0 k from.1 (among from.0 k given) in
        none k (subst (λ o. StandsTwice (λ y. y ≡ k) (cons_option o (filter_map all xs))) (sym (among x k is)) (twice_first k (filter_map all xs) stands))

-- a fold that puts the key of each item, where it gives one, with its value
folds_as : {A V : Type 0} (key : A → Option (List ℕ)) (value : A → V) (step : List (List ℕ × V) → A → List (List ℕ × V))
    → ((made : List (List ℕ × V)) (x : A) → step made x ≡ with_key (key x) (value x) made) → (xs : List A) (made : List (List ℕ × V)) → fold step made xs ≡ fold put_entry made (map (λ x. (key x, value x)) xs)
folds_as key value step is [] made = refl
folds_as key value step is (x ∷ xs) made = ap (λ m. fold step m xs) (is made x) ∙ folds_as key value step is xs (with_key (key x) (value x) made)

-- Of reordered trees such a fold is the same, where they give the same keys and values, and no key twice, be it one of these or of others beside them.
pub reordered_among : {V : Type 0} (key all : Tree → Option (List ℕ)) (value : Tree → V) (step : List (List ℕ × V) → Tree → List (List ℕ × V))
    → ((made : List (List ℕ × V)) (t : Tree) → step made t ≡ with_key (key t) (value t) made) → ((t : Tree) (k : List ℕ) → key t ≡ Some k → all t ≡ Some k) → {loose : Bool} {ts us : List Tree}
    → ((t u : Tree) → StandsIn ts t → IsReordered t u → (key t ≡ key u) × (value t ≡ value u)) → NoneTwice (filter_map all ts) → AreReordered loose ts us
    → fold step [] ts ≡ fold step [] us
reordered_among key all value step is among {ts = ts} {us = us} same none r =
    folds_as key value step is ts []
    ∙ moved_puts (moved_by (λ t. (key t, value t)) r (λ t u s q. ap₂ (λ k v. (k, v)) (same t u s q).0 (same t u s q).1)) (entries_apart key all value among ts none) [] tt
    ∙ sym (folds_as key value step is us [])

-- and so where none of the keys is given twice
pub reordered_fold : {V : Type 0} (key : Tree → Option (List ℕ)) (value : Tree → V) (step : List (List ℕ × V) → Tree → List (List ℕ × V))
    → ((made : List (List ℕ × V)) (t : Tree) → step made t ≡ with_key (key t) (value t) made) → {loose : Bool} {ts us : List Tree}
    → ((t u : Tree) → StandsIn ts t → IsReordered t u → (key t ≡ key u) × (value t ≡ value u)) → NoneTwice (filter_map key ts) → AreReordered loose ts us
    → fold step [] ts ≡ fold step [] us
reordered_fold key value step is same none r = reordered_among key key value step is (λ t k e. e) same none r
