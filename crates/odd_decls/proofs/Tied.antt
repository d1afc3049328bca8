-- Values that stand after another by the same key: in a list, in the same list sorted, and where they are the places of items.
use Rattle.std.proofs.Common.{◌≡◌, ◌↔◌, ℕ, ◌+◌, ◌<◌, ◌≤◌, List, [], ◌∷◌, ◌++◌, length, take, drop, get_or, filter, cond, Bool, true, false, not, ◌&&◌, Option, Some, None, Bor, ◌⊎◌, inl, inr, ⊎_elim, refl, sym, ap, ap₂, subst, ◌∙◌, append_assoc, arith, if◌then◌else◌}
use Rattle.std.proofs.lemmas.Bool.{cases_Bool}
use Rattle.std.proofs.lemmas.Cmp.{tied_itself}
use Rattle.std.proofs.lemmas.List.{drop_more, get_or_at, length-append, map-append, take-append-drop, take_all, take_more}
use Rattle.std.proofs.lemmas.List.Elements.{filter-append}
use Rattle.std.proofs.lemmas.List.Sorted.{ranks_by, sorted_far}
use Rattle.std.specs.List.Sorted.{IsStable, ties}
use Rattle.std.specs.Option.{option_eq}
use Rattle.std.specs.Ordering.{eq_by_cmp, is_lt, ordering_reverse}
use Rattle.std.specs.declared.cmp.Ordering.{Ordering}
use Rattle.std.specs.declared.cmp.Ordering.TheVariants.{Less, Equal, Greater}
use Rattle.odd_text.specs.Key.{key_cmp}
use Rattle.odd_text.specs.KeyOrder.{key_exact, key_total, tied_is_same}
use Rattle.odd_text.specs.declared.key.Key.{Key}
use Rattle.odd_text.specs.Keyed.{key_of, keyed_cmp}
use Rattle.odd_text.specs.declared.keyed.Keyed.{Keyed}
use Rattle.odd_text.proofs.InList.{StandsOnce, nothing_stands, once_push}
use Rattle.odd_text.specs.Standing.{StandsIn}
use Rattle.odd_forms.proofs.Children.{twice_with}
use Rattle.odd_text.proofs.Least.{least_if, least_or, least_same, lesser_rule}
use Rattle.odd_decls.proofs.Rising.{one_key}
use Rattle.odd_decls.proofs.Where.{StandsWhere, nowhere, where_push}
use Rattle.odd_decls.specs.Faults.{IsAgain, IsKeyIn}
use Rattle.odd_decls.specs.Items.{IsSpecOf}
use Rattle.odd_text.specs.Least.{IsLeast}
use Rattle.odd_decls.specs.Repeats.{AreSorted, IsRepeat, IsTied, TellRepeats, trees_of}
use Rattle.odd_items.specs.declared.listing.Item.{Item}

-- one of the values has the key
abbrev pub HasKey : Key → List (Keyed ℕ) → Type 0
HasKey key = StandsOnce (λ k. key_of k ≡ key)

-- the value comes after others of which one has its key
abbrev pub IsAfter : ℕ → List (Keyed ℕ) → Keyed ℕ → Type 0
IsAfter value ks k = HasKey (key_of k) ks × (value ≡ k.value)

-- a value stands after another by the same key where one somewhere comes so
tied_where : (ks : List (Keyed ℕ)) (value : ℕ) → IsTied ks value ↔ StandsWhere (IsAfter value) ks
tied_where ks value = (
  λ t.
      let w = t.both in
      record {
        before = w.before ++ w.first ∷ w.between;
        item = w.later;
        after = w.after;
        parts = w.parts ∙ sym (append_assoc w.before (w.first ∷ w.between) (w.later ∷ w.after));
        is = ((w.first, (w.before, w.between, refl), w.first_is ∙ sym w.later_is), sym t.is);
      },
  λ s.
      let both = twice_with (λ k. key_of k ≡ key_of s.item) s.before s.after s.item s.is.0 refl in
      subst (λ xs. IsTied xs value) (sym s.parts) (record { key = key_of s.item; both = both; is = sym s.is.1 }),
)

-- an item that passes a test stands among those that pass it, after those before it that do
filter_parts : {A : Type 0} (test : A → Bool) (xs a : List A) (x : A) (b : List A) → xs ≡ a ++ x ∷ b → test x ≡ true → filter test xs ≡ filter test a ++ x ∷ filter test b
filter_parts test xs a x b e h =
    ap (filter test) e ∙ filter-append test a (x ∷ b) ∙ ap (λ t. filter test a ++ cond t (x ∷ filter test b) (filter test b)) h

-- the item stands in the whole list, and before it stand those that pass a test as here
abbrev PassesAfter : {A : Type 0} → (A → Bool) → List A → List A → A → Type 0
PassesAfter {A} test xs a x = (c : List A) × (d : List A) × (xs ≡ c ++ x ∷ d) × (filter test c ≡ a)

-- so it does with one item more in front
passes_later : {A : Type 0} (test : A → Bool) (y : A) (xs a c : List A) (x : A) → ((ys : List A) → filter test ys ≡ a → filter test (y ∷ ys) ≡ c) → PassesAfter test xs a x → PassesAfter test (y ∷ xs) c x
passes_later test y xs a c x with_first f = (y ∷ f.0, f.1, ap (λ ys. y ∷ ys) f.2, with_first f.0 f.3)

-- an item among those that pass a test stands so
filter_around : {A : Type 0} (test : A → Bool) (xs a : List A) (x : A) (b : List A) → filter test xs ≡ a ++ x ∷ b → PassesAfter test xs a x
filter_around test [] a x b e = absurd (nothing_stands x (a, b, e))
filter_around test (y ∷ xs) [] x b e = elim (cases_Bool (test y)) [
  | inl h ↦ let found : y ∷ filter test xs ≡ x ∷ b = rw h at e in ([], xs, (cc), refl)
  | inr h ↦ passes_later test y xs [] [] x (λ ys f. rw h f) (filter_around test xs [] x b (rw h at e))
]
filter_around test (y ∷ xs) (z ∷ a) x b e = elim (cases_Bool (test y)) [
  | inl h ↦
      let found : y ∷ filter test xs ≡ z ∷ (a ++ x ∷ b) = rw h at e in
      let tail : filter test xs ≡ a ++ x ∷ b = cc in
      passes_later test y xs a (z ∷ a) x (λ ys f. rw h (cc)) (filter_around test xs a x b tail)
  | inr h ↦ passes_later test y xs (z ∷ a) (z ∷ a) x (λ ys f. rw h f) (filter_around test xs (z ∷ a) x b (rw h at e))
]

-- values by one key tie
same_ties : (one other : Keyed ℕ) → key_of one ≡ key_of other → ties (λ a b. is_lt (keyed_cmp a b)) one other ≡ true
same_ties one other e =
    ap (λ k. not (is_lt (key_cmp (key_of one) k)) && not (is_lt (key_cmp k (key_of one)))) (sym e)
    ∙ ap (λ r. not (is_lt r) && not (is_lt r)) (tied_itself key_total (key_of one))

-- a stable sort leaves what stands after another by the same key
tied_kept : (some others : List (Keyed ℕ)) → IsStable keyed_cmp some others → (value : ℕ) → StandsWhere (IsAfter value) some → StandsWhere (IsAfter value) others
tied_kept some others stable value s =
    let test = ties (λ a b. is_lt (keyed_cmp a b)) s.item in
    let one = s.is.0 in
    let after = filter_around test others _ s.item _ (stable s.item ∙ filter_parts test some s.before s.item s.after s.parts (same_ties s.item s.item refl)) in
    let first = filter_around test after.0 _ one.0 _ (after.3 ∙ filter_parts test s.before one.1.0 one.0 one.1.1 one.1.2 (same_ties s.item one.0 (sym one.2))) in
    record { before = after.0; item = s.item; after = after.1; parts = after.2; is = ((one.0, (first.0, first.1, first.2), one.2), s.is.1) }

-- so the least among sorted values is the first item that has the key of an earlier one
pub first_told : (items : List Item) (some others : List (Keyed ℕ)) (least : Option ℕ) → TellRepeats items some → IsStable keyed_cmp some others → IsLeast (IsTied others) least → IsLeast (IsRepeat items) least
first_told items some others least told stable h =
    least_same (IsTied others) (IsRepeat items) least
    (λ value t. (told value).0 ((tied_where some value).1 (tied_kept others some (λ k. sym (stable k)) value ((tied_where others value).0 t))))
    (λ value r. (tied_where others value).1 (tied_kept some others stable value ((tied_where some value).0 ((told value).1 r)))) h

-- the item has the key of an earlier one, and so many stand before it
abbrev pub IsAgainAt : ℕ → List Item → Item → Type 0
IsAgainAt place items item = IsAgain (trees_of items) item.tree.now × (place ≡ length items)

-- the values have the keys of the items, and tell which have the key of an earlier one
pub record AreKeyed (items : List Item) (ks : List (Keyed ℕ)) : Type 0 where
  pub keys : (key : Key) → HasKey key ks ↔ IsKeyIn (trees_of items) key
  pub tied : (value : ℕ) → StandsWhere (IsAfter value) ks ↔ StandsWhere (IsAgainAt value) items

-- no values are those of no items
pub none_keyed : AreKeyed [] []
none_keyed = record {
  keys = λ key. (λ s. absurd (nothing_stands s.0 s.1), λ s. absurd (nothing_stands s.0 s.1));
  tied = λ value. (λ s. absurd (nowhere (IsAfter value) s), λ s. absurd (nowhere (IsAgainAt value) s));
}

-- two that are each one of two others
sums : {A B C D E F : Type 0} → E ↔ (A ⊎ C) → F ↔ (B ⊎ D) → A ↔ B → C ↔ D → E ↔ F
sums p q f g = (λ x. q.1 (⊎_elim (λ a. inl (f.0 a)) (λ c. inr (g.0 c)) (p.0 x)), λ y. p.1 (⊎_elim (λ b. inl (f.1 b)) (λ d. inr (g.1 d)) (q.0 y)))

-- what is, or else is not
alone : (A : Type 0) → A ↔ (A ⊎ ⊥)
alone A = (λ a. inl a, λ f. ⊎_elim (λ a. a) (λ b. absurd b) f)

-- the trees of items with one more
trees_push : (items : List Item) (item : Item) → trees_of (items ++ item ∷ []) ≡ trees_of items ++ item.tree.now ∷ []
trees_push items item = map-append (λ i. i.tree.now) items (item ∷ [])

-- an item with a key gives one more
pub keyed_push : (items : List Item) (item : Item) (ks : List (Keyed ℕ)) (k : Keyed ℕ) → AreKeyed items ks → IsSpecOf (key_of k) item.tree.now → k.value ≡ length items
    → AreKeyed (items ++ item ∷ []) (ks ++ k ∷ [])
keyed_push items item ks k are is at =
    let t = item.tree.now in
    let ts = trees_of items in
    let own : (key : Key) → IsSpecOf key t → key_of k ≡ key = λ key other. one_key t (key_of k) key is other in
    record {
      keys = λ key. subst (λ us. HasKey key (ks ++ k ∷ []) ↔ IsKeyIn us key) (sym (trees_push items item))
          (sums (once_push (λ o. key_of o ≡ key) ks k) (once_push (IsSpecOf key) ts t) (are.keys key) (λ e. subst (λ j. IsSpecOf j t) e is, own key));
      tied = λ value.
          sums (where_push (IsAfter value) ks k) (where_push (IsAgainAt value) items item) (are.tied value)
          (λ f. ((key_of k, is, (are.keys (key_of k)).0 f.0), f.1 ∙ at), λ g. ((are.keys (key_of k)).1 (subst (IsKeyIn ts) (sym (own g.0.0 g.0.1)) g.0.2), g.1 ∙ sym at));
    }

-- and one without a key none
pub keyed_same : (items : List Item) (item : Item) (ks : List (Keyed ℕ)) → AreKeyed items ks → ((key : Key) → IsSpecOf key item.tree.now → ⊥) → AreKeyed (items ++ item ∷ []) ks
keyed_same items item ks are none =
    let t = item.tree.now in
    let ts = trees_of items in
    record {
      keys = λ key. subst (λ us. HasKey key ks ↔ IsKeyIn us key) (sym (trees_push items item))
          (sums (alone (HasKey key ks)) (once_push (IsSpecOf key) ts t) (are.keys key) (λ f. absurd f, none key));
      tied = λ value.
          sums (alone (StandsWhere (IsAfter value) ks)) (where_push (IsAgainAt value) items item) (are.tied value) (λ f. absurd f, λ g. none g.0.0 g.0.1);
    }

-- such values tell the repeats
pub repeats_told : (items : List Item) (ks : List (Keyed ℕ)) → AreKeyed items ks → TellRepeats items ks
repeats_told items ks are place = (
  λ t.
      let s = (are.tied place).0 ((tied_where ks place).0 t) in
      record { before = s.before; item = s.item; after = s.after; parts = s.parts; many = sym s.is.1; again = s.is.0 },
  λ r.
      (tied_where ks place).1 ((are.tied place).1 (record { before = r.before; item = r.item; after = r.after; parts = r.parts; is = (r.again, sym r.many) })),
)

-- the last of the values, where there is one
abbrev pub IsLast : List (Keyed ℕ) → Option (Bor (Keyed ℕ)) → Type 0
IsLast ks None = ks ≡ []
IsLast ks (Some k) = (before : List (Keyed ℕ)) × (ks ≡ before ++ k.now ∷ [])

-- of sorted values none is below one that stands before it, or itself
not_below : (all front : List (Keyed ℕ)) (k : Keyed ℕ) (rest : List (Keyed ℕ)) (o : Keyed ℕ) → AreSorted all → all ≡ front ++ k ∷ rest → StandsIn (front ++ k ∷ []) o → is_lt (keyed_cmp k o) ≡ false
not_below all front k rest o sorted parts s =
    let to : all ≡ s.0 ++ o ∷ (s.1 ++ rest) = parts ∙ sym (append_assoc front (k ∷ []) rest) ∙ ap (λ xs. xs ++ rest) s.2 ∙ append_assoc s.0 (o ∷ s.1) rest in
    let later : get_or all (length front) k ≡ k = ap (λ xs. get_or xs (length front) k) parts ∙ get_or_at front k rest k (length front) refl in
    let first : get_or all (length s.0) k ≡ o = ap (λ xs. get_or xs (length s.0) k) to ∙ get_or_at s.0 o (s.1 ++ rest) k (length s.0) refl in
    let order : length s.0 ≤ length front = omega (arith, ap length s.2, length-append front (k ∷ []), length-append s.0 (o ∷ s.1)) in
    let within : length front < length all = omega (arith, ap length parts, length-append front (k ∷ rest)) in
    sym (ap₂ (λ a b. is_lt (keyed_cmp a b)) later first) ∙ sorted_far (λ a b. is_lt (keyed_cmp a b)) (ranks_by key_total key_of) all sorted (length s.0) (length front) k order within

-- neither is below the other where they are the same
neither : (r s : Ordering) → r ≡ ordering_reverse s → is_lt r ≡ false → is_lt s ≡ false → r ≡ Equal
neither r Less e p q = cc
neither r Equal e p q = e
neither r Greater e p q = let h = sym (ap is_lt e) ∙ p in cc

-- a key between two that are the same is the same
between_same : (first mid last : Key) → first ≡ last → is_lt (key_cmp mid first) ≡ false → is_lt (key_cmp last mid) ≡ false → mid ≡ last
between_same first mid last e p q = key_exact mid last (neither (key_cmp mid last) (key_cmp last mid) (key_total.antisymm mid last) (ap (λ k. is_lt (key_cmp mid k)) (sym e) ∙ p) q)

-- whether the last one has the key of the next
abbrev ties_last : Option (Bor (Keyed ℕ)) → Bor (Keyed ℕ) → Bool
ties_last before one = option_eq (λ a b. eq_by_cmp keyed_cmp a.now b.now) before (Some one)

-- it has where any of those before has it, in sorted values
told_by_last : (before : Option (Bor (Keyed ℕ))) (one : Bor (Keyed ℕ)) (all done rest : List (Keyed ℕ)) → AreSorted all → all ≡ done ++ one.now ∷ rest → IsLast done before
    → (ties_last before one ≡ true) ↔ HasKey (key_of one.now) done
told_by_last None one all done rest sorted parts last = (λ e. cc, λ s. absurd (nothing_stands s.0 (subst (λ xs. StandsIn xs s.0) last s.1)))
told_by_last (Some b) one all done rest sorted parts last =
    let same = tied_is_same (key_of b.now) (key_of one.now) _ refl in
    let to : all ≡ last.0 ++ b.now ∷ (one.now ∷ rest) = parts ∙ ap (λ xs. xs ++ one.now ∷ rest) last.1 ∙ append_assoc last.0 (b.now ∷ []) (one.now ∷ rest) in (
      λ e. (b.now, (last.0, [], last.1), same.0 e),
      λ s.
          same.1 (between_same (key_of s.0) (key_of b.now) (key_of one.now) s.2
          (not_below all last.0 b.now (one.now ∷ rest) s.0 sorted to (subst (λ xs. StandsIn xs s.0) last.1 s.1))
          (not_below all done one.now rest b.now sorted parts (last.0, one.now ∷ [], ap (λ xs. xs ++ one.now ∷ []) last.1 ∙ append_assoc last.0 (b.now ∷ []) (one.now ∷ [])))),
    )

-- the last of the values so far, and the least of them that stands after another by the same key
pub record TiedSoFar (ks : List (Keyed ℕ)) (count : ℕ) (before : Option (Bor (Keyed ℕ))) (least : Option ℕ) : Type 0 where
  pub last : IsLast (take count ks) before
  pub is_least : AreSorted ks → IsLeast (λ value. StandsWhere (IsAfter value) (take count ks)) least

-- at first there are none
pub none_tied : (ks : List (Keyed ℕ)) → TiedSoFar ks 0 None None
none_tied ks = record { last = refl; is_least = λ sorted value s. nowhere (IsAfter value) s }

-- one more is compared with the last
pub tied_more : (ks : List (Keyed ℕ)) (count : ℕ) (before : Option (Bor (Keyed ℕ))) (least new : Option ℕ) (one : Bor (Keyed ℕ)) (d : Keyed ℕ) (again : Bool) → TiedSoFar ks count before least → count < length ks
    → one.now ≡ get_or ks count d → again ≡ ties_last before one → new ≡ lesser_rule least (if again then Some one.now.value else None) → TiedSoFar ks (count + 1) (Some one) new
tied_more ks count before least new one d again so_far h at e is =
    let done = take count ks in
    let next : take (count + 1) ks ≡ done ++ one.now ∷ [] = take_more ks count d h ∙ ap (λ k. done ++ k ∷ []) (sym at) in
    let parts : ks ≡ done ++ one.now ∷ drop (count + 1) ks = sym (take-append-drop count ks) ∙ ap (λ xs. done ++ xs) (drop_more ks count d h ∙ ap (λ k. k ∷ drop (count + 1) ks) (sym at)) in
    record {
      last = (done, next);
      is_least = λ sorted.
          let told = told_by_last before one ks done (drop (count + 1) ks) sorted parts so_far.last in
          let Earlier : ℕ → Type 0 = λ value. StandsWhere (IsAfter value) done in
          let Here : ℕ → Type 0 = λ value. IsAfter value done one.now in
          let Now : ℕ → Type 0 = λ value. StandsWhere (IsAfter value) (take (count + 1) ks) in
          let push : (value : ℕ) → Now value ↔ (Earlier value ⊎ Here value) = λ value. subst (λ xs. StandsWhere (IsAfter value) xs ↔ (Earlier value ⊎ Here value)) (sym next) (where_push (IsAfter value) done one.now) in
          let here = least_if Here again one.now.value (λ t. (told.0 (sym e ∙ t), refl)) (λ other f. (e ∙ told.1 f.0, f.1)) in
          subst (IsLeast Now) (sym is)
          (least_same (λ value. Earlier value ⊎ Here value) Now _ (λ value f. (push value).1 f) (λ value f. (push value).0 f) (least_or Earlier Here least _ (so_far.is_least sorted) here));
    }

-- at the end all were
pub all_tied : (ks : List (Keyed ℕ)) (count : ℕ) (before : Option (Bor (Keyed ℕ))) (least : Option ℕ) → TiedSoFar ks count before least → length ks ≤ count → AreSorted ks → IsLeast (IsTied ks) least
all_tied ks count before least so_far h sorted =
    least_same (λ value. StandsWhere (IsAfter value) ks) (IsTied ks) least (λ value s. (tied_where ks value).1 s) (λ value t. (tied_where ks value).0 t)
    (subst (λ xs. IsLeast (λ value. StandsWhere (IsAfter value) xs) least) (take_all count ks h) (so_far.is_least sorted))
