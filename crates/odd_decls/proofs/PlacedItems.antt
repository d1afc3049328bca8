-- Items in the order of their places: in a formed file at most one element begins at a place.
use Rattle.std.proofs.Common.{◌≡◌, ◌↔◌, ℕ, ◌<◌, inl, inr, ⊎_elim, true, false, List, [], ◌∷◌, ◌++◌, cond, map, Some, refl, sym, ap, subst, ◌∙◌}
use Rattle.std.proofs.lemmas.Bool.{cases_Bool}
use Rattle.std.proofs.lemmas.Cmp.{nat_cmp_total}
use Rattle.std.proofs.lemmas.List.{map-append}
use Rattle.std.proofs.lemmas.List.Elements.{All-contains}
use Rattle.std.proofs.lemmas.Map.Keys.{sorted_tail}
use Rattle.std.proofs.lemmas.Map.Lookups.{exact_unsigned}
use Rattle.std.proofs.lemmas.Map.Views.{All-after_first, btree_map_get_iff, tells_apart}
use Rattle.std.proofs.lemmas.Option.{same_Some}
use Rattle.std.specs.BTreeMap.{BTreeMap, IsOrdered, get, is_at}
use Rattle.std.specs.Cmp.{nat_cmp_is, ranks}
use Rattle.std.specs.List.{Contains}
use Rattle.std.specs.List.Sorted.{IsStrictlySortedBy}
use Rattle.std.specs.Map.{keys_of, values_of}
use Rattle.std.specs.Ordering.{MatchOrdering, is_eq, nat_cmp}
use Rattle.std.specs.declared.cmp.Ordering.TheVariants.{Equal, Less}
use Rattle.odd_text.proofs.InList.{contained, map_stands, stands_first, stands_later, stands_map, stands_push, standing}
use Rattle.odd_text.specs.Standing.{StandsIn}
use Rattle.odd_tree.specs.Formed.{IsFormed}
use Rattle.odd_tree.specs.declared.tree.Tree.{Tree, out-Tree}
use Rattle.odd_items.proofs.Standing.{StandsUnder, same_place}
use Rattle.odd_items.specs.Listing.{AreItems, IsItemOf}
use Rattle.odd_items.specs.Search.{Found}
use Rattle.odd_items.specs.declared.listing.Item.{Item}
use Rattle.odd_items.specs.declared.searching.Level.{Level}
use Rattle.odd_decls.specs.FileItems.{AreByPlace, AreInOrder, ItemsRise}

-- where an item begins
abbrev place_of : Item → ℕ
place_of item = (out-Tree item.tree.now).at

-- of numbers in order an earlier one is less
earlier_less : (before between after : List ℕ) (one other : ℕ) → IsStrictlySortedBy nat_cmp (before ++ one ∷ (between ++ other ∷ after)) → one < other
earlier_less [] between after one other up =
    let less = All-contains (λ n. nat_cmp one n ≡ Less) (between ++ other ∷ after) other (All-after_first nat_cmp one (between ++ other ∷ after) up)
    (contained (between ++ other ∷ after) other (between, after, refl)) in
    subst (λ r. MatchOrdering r (one < other) (one ≡ other) (other < one)) less (ranks one other)
earlier_less (n ∷ before) between after one other up = earlier_less before between after one other (sorted_tail nat_cmp n (before ++ one ∷ (between ++ other ∷ after)) up)

-- items in the order of their places rise
in_order_rise : (items : List Item) → IsStrictlySortedBy nat_cmp (map place_of items) → ItemsRise items
in_order_rise items up before between after one other is =
    earlier_less (map place_of before) (map place_of between) (map place_of after) (place_of one) (place_of other) (subst (IsStrictlySortedBy nat_cmp) places up)
  where
    places : map place_of items ≡ map place_of before ++ place_of one ∷ (map place_of between ++ place_of other ∷ map place_of after)
    places = ap (map place_of) is ∙ map-append place_of before (one ∷ (between ++ other ∷ after))
        ∙ ap (λ ns. map place_of before ++ place_of one ∷ ns) (map-append place_of between (other ∷ after))

-- an item is put at its place
pub place_more : (done : List Item) (item : Item) (old new : BTreeMap ℕ Item) → AreByPlace done old → IsOrdered nat_cmp new
    → ((q : ℕ) → get nat_cmp new q ≡ cond (is_at (nat_cmp (place_of item)) q) (Some item) (get nat_cmp old q)) → AreByPlace (done ++ item ∷ []) new
place_more done item old new are up updates = record {
  ordered = up;
  held = λ place other e. ⊎_elim
      (λ here. let same = same_Some item other (sym (at_once place here) ∙ e) in
      ((stands_push done item other).1 (inr same), ap place_of (sym same) ∙ tells_apart exact_unsigned (place_of item) place here))
      (λ apart. let h = are.held place other (sym (otherwise place apart) ∙ e) in ((stands_push done item other).1 (inl h.0), h.1)) (cases_Bool (is_at (nat_cmp (place_of item)) place));
  each = λ other s. ⊎_elim
      (λ here. (item, at_once (place_of other) here))
      (λ apart. ⊎_elim (λ old_one. let h = are.each other old_one in (h.0, otherwise (place_of other) apart ∙ h.1))
      (λ same. (item, updates (place_of other) ∙ ap (λ b. cond b (Some item) (get nat_cmp old (place_of other))) (itself (place_of item) (place_of other) (ap place_of same))))
      ((stands_push done item other).0 s)) (cases_Bool (is_at (nat_cmp (place_of item)) (place_of other)));
}
  where
    at_once : (q : ℕ) → is_at (nat_cmp (place_of item)) q ≡ true → get nat_cmp new q ≡ Some item
    at_once q here = updates q ∙ ap (λ b. cond b (Some item) (get nat_cmp old q)) here

    otherwise : (q : ℕ) → is_at (nat_cmp (place_of item)) q ≡ false → get nat_cmp new q ≡ get nat_cmp old q
    otherwise q apart = updates q ∙ ap (λ b. cond b (Some item) (get nat_cmp old q)) apart

    itself : (m n : ℕ) → m ≡ n → is_at (nat_cmp m) n ≡ true
    itself m n e = sym (ap is_eq (nat_cmp_is m n Equal e))

-- the items at all places are in order
pub ordered_items : (items ordered : List Item) (placed : BTreeMap ℕ Item) → ordered ≡ values_of placed.entries → AreByPlace items placed → AreInOrder items ordered
ordered_items items ordered placed is are = record {
  rises = subst ItemsRise (sym is) (in_order_rise (values_of placed.entries) (subst (IsStrictlySortedBy nat_cmp) (sym (keys_are placed.entries (λ e s. (entry e s).1))) are.ordered));
  none_else = λ item s. let h = stands_map (λ e. e.1) placed.entries item (subst (λ l. StandsIn l item) is s) in subst (StandsIn items) (sym h.2) (entry h.0 h.1).0;
  each = λ item s.
      let h = are.each item s in
      let there = standing placed.entries (place_of item, h.0) ((found (place_of item) h.0).0 h.1) in
      (h.0, subst (λ l. StandsIn l h.0) (sym is) (map_stands (λ e. e.1) placed.entries (place_of item, h.0) there), (are.held (place_of item) h.0 h.1).1);
}
  where
    found : (place : ℕ) (item : Item) → (get nat_cmp placed place ≡ Some item) ↔ Contains placed.entries (place, item)
    found = btree_map_get_iff nat_cmp_total exact_unsigned placed are.ordered

    entry : (e : ℕ × Item) → StandsIn placed.entries e → StandsIn items e.1 × (place_of e.1 ≡ e.0)
    entry e s = are.held e.0 e.1 ((found e.0 e.1).1 (contained placed.entries e s))

    keys_are : (entries : List (ℕ × Item)) → ((e : ℕ × Item) → StandsIn entries e → place_of e.1 ≡ e.0) → map place_of (values_of entries) ≡ keys_of entries
    keys_are [] h = refl
    keys_are (e ∷ entries) h = let first = h e (stands_first e entries) in let later = keys_are entries (λ f s. h f (stands_later e f entries s)) in cc

-- and where what is such stands in a formed file, they are all of its items
pub items_in_order : (t : Tree) (first end : ℕ) → IsFormed first end t → (levels : List Level) (items ordered : List Item) (Is : Found → Type 0) → ((f : Found) → Is f → StandsUnder [] t f)
    → AreItems levels items Is → AreInOrder items ordered → AreItems levels ordered Is
items_in_order t first end formed levels items ordered Is under are order = record {
  none_else = λ item s. are.none_else item (order.none_else item s);
  each = λ f is.
      let h = are.each f is in
      let o = order.each h.0 h.1 in
      let g = are.none_else o.0 (order.none_else o.0 o.1) in
      let places : (out-Tree g.0.element).at ≡ (out-Tree f.element).at = ap (λ u. (out-Tree u).at) (sym g.1.tree) ∙ o.2 ∙ ap (λ u. (out-Tree u).at) h.2.tree in
      (o.0, o.1, subst (IsItemOf levels o.0) (same_place first end [] t g.0 f formed (under g.0 g.2) (under f is) places) g.1);
}
