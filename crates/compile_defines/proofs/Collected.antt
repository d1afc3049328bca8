-- Conditions that are collected and ranked, words that are found among sorted ones or pass a test, and contents by their parts.
use Rattle.std.proofs.Common.{◌≡◌, List, [], ◌∷◌, ◌++◌, inl, inr, sym, subst, map, refl, ap, ◌∙◌, ◌<◌, ◌≤◌, ℕ, zero, suc, Bool, true, false, cond, length, get_or, arith, ◌+◌, filter, take, Ok, Err}
use Rattle.std.proofs.Math.Bool.{beq}
use Rattle.std.proofs.lemmas.Bool.{cases_lt}
use Rattle.std.proofs.lemmas.Cmp.{nat_list_cmp_total}
use Rattle.std.proofs.lemmas.List.{append-nil}
use Rattle.std.proofs.lemmas.List.Elements.{filter_more}
use Rattle.std.proofs.lemmas.List.Folds.{list_any_at, list_any_none}
use Rattle.std.proofs.lemmas.List.Sorted.{searchable_from_sorted}
use Rattle.std.proofs.lemmas.List.Sums.{sum_by-cons}
use Rattle.std.specs.Cmp.{IsTotalOrder}
use Rattle.std.specs.Cmp.Lexicographic.{texts_ties}
use Rattle.std.specs.List.{list_any}
use Rattle.std.specs.List.Sorted.{IsPartitionedBy, IsPartitionPoint, IsBinarySearchResult, IsSearchInRange, IsSorted}
use Rattle.std.specs.Ordering.{is_lt, is_eq, ordering_reverse}
use Rattle.std.specs.Prelude.{flat_map, count_by}
use Rattle.std.specs.Result.{is_ok}
use Rattle.std.specs.declared.cmp.Ordering.{Ordering}
use Rattle.std.specs.declared.cmp.Ordering.TheVariants.{Less, Equal, Greater}
use Rattle.std.specs.declared.result.Result.{Result}
use Rattle.odd_content.specs.Picking.{is_picked}
use Rattle.odd_content.specs.declared.content.Condition.{Condition}
use Rattle.odd_content.specs.declared.content.Content.{Content, Empty, Text, Value, Vals, Element, Class, Macro, Any, Sequence, Alternate, Sequence', Alternate', Row_of-Content, end_of-Content, more_of-Content, items-the_row-Content, items_hidden-the_row-Content-0}
use Rattle.odd_content.specs.declared.content.Content.TheBlock.{hidden-the_row-Content-0}
use Rattle.odd_content.specs.declared.content.Pick.TheVariants as pick
use Rattle.odd_text.proofs.SetOf.{rest_rising}
use Rattle.odd_text.specs.Sorted.{IsSet, AreRising}
use Rattle.odd_library.specs.Library.{content_of}
use Rattle.odd_library.specs.declared.library.Component.{Component}
use Rattle.odd_library.specs.declared.library.Library.{Library}
use Rattle.odd_meaning.specs.Classes.{Members}
use Rattle.odd_text.specs.Text.{text_cmp}
use Rattle.odd_text.specs.declared.key.Key.{Key}
use Rattle.odd_text.specs.Same.{is_same}
use Rattle.odd_text.proofs.InList.{first_or_later, nothing_stands, stands_first, stands_later}
use Rattle.odd_text.specs.Standing.{StandsIn}
use Rattle.rng_grammar.specs.declared.grammar.Expr.{Expr}
use Rattle.rng_types.specs.declared.bounds.Bounds.{Bounds}
use Rattle.compile_defines.proofs.Elements.{part_within}
use Rattle.compile_defines.proofs.Standing.{stands_either, stands_left, stands_right, is_less}
use Rattle.odd_content.specs.ConditionOrder.{condition_cmp}
use Rattle.compile_defines.specs.Budget.{pattern_elements}
use Rattle.compile_defines.specs.Conditions.{IsConditionOf, conditions_of, conditions_in, conditions_in_parts}
use Rattle.compile_defines.specs.Contents.{content_pattern, part_patterns}
use Rattle.compile_defines.specs.Data.{data_pattern, data_patterns}
use Rattle.compile_defines.specs.Parts.{bounds_of, is_never, part_pattern}
use Rattle.compile_defines.specs.Repeating.{choice_pattern, group_pattern, repeated}
use Rattle.compile_defines.specs.Wanted.{is_wanted}

module _ {X A : Type 0} (f : X → List A) (a : A) where
  pub stands_collected : (xs : List X) (x : X) → StandsIn xs x → StandsIn (f x) a → StandsIn (flat_map f xs) a
  stands_collected [] x s h = absurd (nothing_stands x s)
  stands_collected (y ∷ ys) x s h = elim (first_or_later y x ys s) [
    | inl e ↦ stands_left (f y) (flat_map f ys) a (subst (λ z. StandsIn (f z) a) e h)
    | inr later ↦ stands_right (f y) (flat_map f ys) a (stands_collected ys x later h)
  ]

  pub collected_stands : (xs : List X) → StandsIn (flat_map f xs) a → (x : X) × StandsIn xs x × StandsIn (f x) a
  collected_stands [] s = absurd (nothing_stands a s)
  collected_stands (y ∷ ys) s = elim (stands_either (f y) (flat_map f ys) a s) [
    | inl here ↦ (y, stands_first y ys, here)
    | inr later ↦ let p = collected_stands ys later in (p.0, stands_later y p.0 ys p.1, p.2)
  ]

-- what holds of what stands in either of two lists holds of what stands in both
pub each_of_both : {A : Type 0} (P : A → Type 0) (xs ys : List A) → ((x : A) → StandsIn xs x → P x) → ((x : A) → StandsIn ys x → P x) → (x : A) → StandsIn (xs ++ ys) x → P x
each_of_both P xs ys h k x s = elim (stands_either xs ys x s) [ inl t ↦ h x t | inr t ↦ k x t ]

-- the conditions of an entry of a library
abbrev pub conditions_at : Key × Component → List Condition
conditions_at entry = conditions_of (content_of entry.1)

-- the conditions of all entries, sorted, are those of the library
pub conditions_set : (library : Library) (held sorted : List Condition) → held ≡ flat_map conditions_at library.parts → IsSet condition_cmp (StandsIn held) sorted
    → IsSet condition_cmp (IsConditionOf library) sorted
conditions_set library held sorted is set = record {
  rising = set.rising;
  none_else = λ c s.
      let p = collected_stands conditions_at c library.parts (subst (λ cs. StandsIn cs c) is (set.none_else c s)) in
      record { entry = p.0; among = p.1; holds = p.2 };
  each = λ c h. set.each c (subst (λ cs. StandsIn cs c) (sym is) (stands_collected conditions_at c library.parts h.entry h.among h.holds));
}

-- the conditions in the parts of a row are those in its list
conditions_listed : {n : _} (row : Row_of-Content n) → conditions_in_parts row ≡ flat_map conditions_in (items-the_row-Content n row)
conditions_listed end_of-Content = refl
conditions_listed (more_of-Content part row) = ap (λ cs. conditions_in part ++ cs) (conditions_listed row)

-- so those in the parts of a block are
conditions_of_parts : (parts : List Content) → conditions_in_parts (hidden-the_row-Content-0 parts) ≡ flat_map conditions_in parts
conditions_of_parts parts = conditions_listed (hidden-the_row-Content-0 parts) ∙ ap (flat_map conditions_in) (items_hidden-the_row-Content-0 parts)

-- so are those in a sequence and in an alternate

pub sequence_conditions : (parts : List Content) (b : Bounds) → conditions_in (Sequence parts b) ≡ flat_map conditions_in parts
sequence_conditions parts b = conditions_of_parts parts

pub alternate_conditions : (parts : List Content) (b : Bounds) → conditions_in (Alternate parts b) ≡ flat_map conditions_in parts
alternate_conditions parts b = conditions_of_parts parts

-- the patterns of the parts of a row that is a datatype's are those of its list
data_listed : {n : _} (row : Row_of-Content n) → data_patterns row ≡ map data_pattern (items-the_row-Content n row)
data_listed end_of-Content = refl
data_listed (more_of-Content part row) = ap (λ ps. data_pattern part ∷ ps) (data_listed row)

-- so an alternation of a datatype's is a choice of them
pub alternate_data : (parts : List Content) (b : Bounds) → data_pattern (Alternate parts b) ≡ choice_pattern (map data_pattern parts)
alternate_data parts b = ap choice_pattern (data_listed (hidden-the_row-Content-0 parts) ∙ ap (map data_pattern) (items_hidden-the_row-Content-0 parts))

module _ (library : Library) (conditions : List Condition) (members : Members) where
  -- the pattern of one part
  abbrev pattern : Content → Expr
  pattern = content_pattern library conditions members

  -- those of the parts in a row are those of its list
  patterns_listed : {n : _} (row : Row_of-Content n) → part_patterns library conditions members row ≡ map pattern (items-the_row-Content n row)
  patterns_listed end_of-Content = refl
  patterns_listed (more_of-Content part row) = ap (λ ps. pattern part ∷ ps) (patterns_listed row)

  -- so those of the parts in a block are
  patterns_of_parts : (parts : List Content) → part_patterns library conditions members (hidden-the_row-Content-0 parts) ≡ map pattern parts
  patterns_of_parts parts = patterns_listed (hidden-the_row-Content-0 parts) ∙ ap (map pattern) (items_hidden-the_row-Content-0 parts)

  -- a sequence is a group of them, and an alternate a choice

  pub sequence_pattern : (parts : List Content) (b : Bounds) → content_pattern library conditions members (Sequence parts b) ≡ repeated (group_pattern (map (content_pattern library conditions members) parts)) b
  sequence_pattern parts b = ap (λ ps. repeated (group_pattern ps) b) (patterns_of_parts parts)

  pub alternate_pattern : (parts : List Content) (b : Bounds) → content_pattern library conditions members (Alternate parts b) ≡ repeated (choice_pattern (map (content_pattern library conditions members) parts)) b
  alternate_pattern parts b = ap (λ ps. repeated (choice_pattern ps) b) (patterns_of_parts parts)

  -- however often they stand

  pub sequence_part : (parts : List Content) (b : Bounds) → part_pattern library conditions members (Sequence parts b) ≡ group_pattern (map (content_pattern library conditions members) parts)
  sequence_part parts b = ap group_pattern (patterns_of_parts parts)

  pub alternate_part : (parts : List Content) (b : Bounds) → part_pattern library conditions members (Alternate parts b) ≡ choice_pattern (map (content_pattern library conditions members) parts)
  alternate_part parts b = ap choice_pattern (patterns_of_parts parts)

  -- a content is its part, so often as it stands
  content_is : (content : Content) → content_pattern library conditions members content ≡ repeated (part_pattern library conditions members content) (bounds_of content)
  content_is Empty = refl
  content_is Text = refl
  content_is (Value item) = refl
  content_is (Vals list) = refl
  content_is (Element key b) = refl
  content_is (Class key p b) = refl
  content_is (Macro key b) = refl
  content_is (Any c b) = refl
  content_is (Sequence' shape parts b) = refl
  content_is (Alternate' shape parts b) = refl

  -- and has the elements of its part, where that stands at all
  pub part_in_content : (content : Content) → is_never (bounds_of content) ≡ false
      → pattern_elements (part_pattern library conditions members content) ≤ pattern_elements (content_pattern library conditions members content)
  part_in_content content some =
      let within = part_within (part_pattern library conditions members content) (bounds_of content) some in
      let same = ap pattern_elements (content_is content) in
      omega arith

module _ {A : Type 0} {order : A → A → Ordering} (total : IsTotalOrder order) (bound : A) where
  -- what is below an item that is below the bound
  lower : (x y : A) → order x y ≡ Less → is_lt (order y bound) ≡ true → is_lt (order x bound) ≡ true
  lower x y h b = ap is_lt (total.trans x y bound h (is_less (order y bound) b))

  first_below : (x : A) (xs : List A) → AreRising order (x ∷ xs) → (j : ℕ) (d : A) → j < length (x ∷ xs) → is_lt (order (get_or (x ∷ xs) j d) bound) ≡ true → is_lt (order x bound) ≡ true
  first_below x xs h zero d lt e = e
  first_below x [] h (suc j) d lt e = let no : ⊥ = omega arith in absurd no
  first_below x (y ∷ xs) h (suc j) d lt e = lower x y (h [] xs x y refl) (first_below y xs (rest_rising order total x (y ∷ xs) h) j d (omega arith) e)

  -- no item that is below the bound comes after one that is not
  pub rising_parted : (xs : List A) → AreRising order xs → IsPartitionedBy (λ x. is_lt (order x bound)) xs
  rising_parted [] h i j d le lt e = let no : ⊥ = omega arith in absurd no
  rising_parted (x ∷ xs) h zero j d le lt e = first_below x xs h j d lt e
  rising_parted (x ∷ xs) h (suc i) zero d le lt e = let no : ⊥ = omega arith in absurd no
  rising_parted (x ∷ xs) h (suc i) (suc j) d le lt e = rising_parted xs (rest_rising order total x xs h) i j d (omega arith) (omega arith) e

module _ {A : Type 0} (p : A → Bool) where
  none_counted : (xs : List A) → ((k : ℕ) (d : A) → k < length xs → p (get_or xs k d) ≡ false) → count_by p xs ≡ 0
  none_counted [] h = refl
  none_counted (x ∷ xs) h =
      let first : cond {A = ℕ} (p x) 1 0 ≡ 0 = ap (λ b. cond {A = ℕ} b 1 0) (h zero x (omega arith)) in
      let step = sum_by-cons (λ y. cond (p y) 1 0) x xs in
      let rest = none_counted xs (λ k d lt. h (suc k) d (omega arith)) in
      omega arith

  -- the place up to which the items pass the test is the count of those that pass it
  pub partition_counted : (xs : List A) (i : ℕ) → i ≤ length xs → IsPartitionPoint (λ x. p x ≡ true) (λ x. p x ≡ false) xs i → count_by p xs ≡ i
  partition_counted [] i le h = let none : i ≡ 0 = omega arith in sym none
  partition_counted (x ∷ xs) zero le h = none_counted (x ∷ xs) (λ k d lt. h.1 k d (omega arith) lt)
  partition_counted (x ∷ xs) (suc i) le h =
      let first : cond {A = ℕ} (p x) 1 0 ≡ 1 = ap (λ b. cond {A = ℕ} b 1 0) (h.0 zero x (omega arith) (omega arith)) in
      let step = sum_by-cons (λ y. cond (p y) 1 0) x xs in
      let rest = partition_counted xs i (omega arith) (λ k d low high. h.0 (suc k) d (omega arith) (omega arith), λ k d low high. h.1 (suc k) d (omega arith) (omega arith)) in
      omega arith

-- what a test gives is wanted where it is what is looked for
pub wanted_told : (wanted passes : Bool) → is_wanted wanted passes ≡ beq passes wanted
wanted_told true true = refl
wanted_told true false = refl
wanted_told false true = refl
wanted_told false false = refl

-- all pass where none is left out
pub all_picked : (idents : List (List ℕ)) → filter (is_picked pick.All) idents ≡ idents
all_picked [] = refl
all_picked (ident ∷ idents) = ap (λ words. ident ∷ words) (all_picked idents)

module _ {A : Type 0} (test : A → Bool) (xs items left : List A) (i : ℕ) (x : A) (same : items ≡ xs) (within : i < length items) (is : x ≡ get_or items i x)
    (before : left ≡ filter test (take i xs)) where
  one_more : left ++ cond (test x) (x ∷ []) [] ≡ filter test (take (i + 1) xs)
  one_more =
      let there : x ≡ get_or xs i x = is ∙ ap (λ ys. get_or ys i x) same in
      (λ j. before j ++ cond (test (there j)) (there j ∷ []) []) ∙ sym (filter_more test xs i x (subst (λ ys. i < length ys) same within))

  -- with an item that passes
  pub one_kept : test x ≡ true → left ++ x ∷ [] ≡ filter test (take (i + 1) xs)
  one_kept passes = ap (λ b. left ++ cond b (x ∷ []) []) (sym passes) ∙ one_more

  -- and with one that does not
  pub one_left_out : test x ≡ false → left ≡ filter test (take (i + 1) xs)
  one_left_out fails = sym (append-nil left) ∙ ap (λ b. left ++ cond b (x ∷ []) []) (sym fails) ∙ one_more

-- how words compare tells whether they are the same
same_told : (word other : List ℕ) (r : Ordering) → text_cmp other word ≡ r → is_same word other ≡ is_eq (ordering_reverse r)
same_told word other r e = texts_ties word other ∙ ap is_eq (nat_list_cmp_total.antisymm word other ∙ ap ordering_reverse e)

-- a search among sorted words finds what is there
pub search_told : (words : List (List ℕ)) (word : List ℕ) → IsSorted text_cmp words → (r : Result ℕ ℕ) → IsSearchInRange r (length words) → IsBinarySearchResult (λ y. text_cmp y word) words r
    → is_ok r ≡ list_any (is_same word) words
search_told words word up (Ok k) lt at = sym (list_any_at (is_same word) words k [] lt (same_told word (get_or words k []) Equal (at [])))
search_told words word up (Err i) le at =
    let ends = at (searchable_from_sorted nat_list_cmp_total (λ w. w) words word up) in
    sym (list_any_none (is_same word) words (λ k d lt. elim (cases_lt k i) [
      | inl low ↦ same_told word (get_or words k d) Less (ends.0 k d (omega arith) low)
      | inr high ↦ same_told word (get_or words k d) Greater (ends.1 k d high lt)
    ]))
