-- That an item stands twice is seen from neighbours, where the items are sorted.
use Rattle.std.proofs.Common.{◌≡◌, ℕ, suc, ◌+◌, ◌-◌, ◌<◌, Bool, true, false, not, ◌&&◌, ◌||◌, List, [], ◌∷◌, ◌++◌, length, get_or, map, take, refl, sym, ap, ◌∙◌, subst, arith, Bor, Some, append-nil, All}
use Rattle.std.proofs.lemmas.Bool.{or_parts, false_from_ne_true, and_parts, and_from, or_from, both_ways}
use Rattle.std.proofs.lemmas.List.{get_or_read, map-append, take_more}
use Rattle.std.proofs.lemmas.List.Elements.{All-nil, All-cons, All-head, All-tail}
use Rattle.std.proofs.lemmas.List.Sorted.{IsPermutation-sym}
use Rattle.std.proofs.lemmas.Map.Keys.{IsDistinct-IsPermutation, IsDistinct-cons, IsDistinct-from_sorted, IsDistinct-head, IsDistinct-tail, apart_from_distinct}
use Rattle.std.proofs.lemmas.Str.{encodes_same}
use Rattle.std.specs.Cmp.{IsTotalOrder, eq_by_cmp_equiv}
use Rattle.std.specs.Cmp.Lexicographic.{same_text}
use Rattle.std.specs.List.{AllByRecursion, IsDistinct, list_any}
use Rattle.std.specs.List.Sorted.{IsPermutation, IsSorted, IsStrictlySortedBy}
use Rattle.std.specs.Ordering.{eq_by_cmp, is_eq, is_lt, ordering_reverse}
use Rattle.std.specs.declared.cmp.Ordering.{Ordering}
use Rattle.std.specs.declared.cmp.Ordering.TheVariants.{Less, Equal, Greater}
use Rattle.odd_text.specs.declared.name.Name.{Name}
use Rattle.odd_tokens.proofs.AttributesLexed.{one_name}
use Rattle.odd_tokens.proofs.Characters.{each_weaker, Lacks, Distinct, distinct, none_twice, distinct_made}
use Rattle.odd_tokens.specs.Making.{name_made, attribute_made}
use Rattle.odd_text.specs.Same.{is_same}
use Rattle.odd_tokens.specs.Tokens.{QName, IsQName, Attribute, IsAttribute, NoneTwice, name_written}
use Rattle.odd_tokens.specs.declared.token.WrittenAttr.{WrittenAttr}
use Rattle.odd_tokens.specs.declared.token.WrittenName.{WrittenName}
use Rattle.odd_tree.proofs.PrintedTrees.{same_from}
use Rattle.odd_reader.specs.Resolving.{some_twice, is_written_same, is_same_name}

pub none_passes : {A : Type 0} (test : A → Bool) (xs : List A) → AllByRecursion (λ x. test x ≡ false) xs → list_any test xs ≡ false
none_passes test [] h = refl
none_passes test (x ∷ xs) h = rw h.0 (none_passes test xs h.1)

pub each_fails : {A : Type 0} (test : A → Bool) (xs : List A) → list_any test xs ≡ false → AllByRecursion (λ x. test x ≡ false) xs
each_fails test [] h = tt
each_fails test (x ∷ xs) h = let e = or_parts (test x) (list_any test xs) h in (e.0, each_fails test xs e.1)

once_from_distinct : {A : Type 0} (same : A → A → Bool) (xs : List A) → IsDistinct same xs → some_twice same xs ≡ false
once_from_distinct same [] h = refl
once_from_distinct same (x ∷ xs) h = rw (none_passes (same x) xs (IsDistinct-head same x xs h)) (once_from_distinct same xs (IsDistinct-tail same x xs h))

distinct_from_once : {A : Type 0} (same : A → A → Bool) (xs : List A) → some_twice same xs ≡ false → IsDistinct same xs
unfolding IsDistinct
distinct_from_once same [] h = tt
distinct_from_once same (x ∷ xs) h =
    let e = or_parts (list_any (same x) xs) (some_twice same xs) h in IsDistinct-cons same x xs (each_fails (same x) xs e.0) (distinct_from_once same xs e.1)

-- neighbours in order that are not equal rise
rises : (r s : Ordering) → s ≡ ordering_reverse r → is_lt s ≡ false → true ≡ not (is_eq r) → r ≡ Less
rises Less s e l n = refl
rises Equal s e l n = cc
rises Greater Less e l n = cc
rises Greater Equal e l n = cc
rises Greater Greater e l n = cc

strictly_sorted : {A : Type 0} {order : A → A → Ordering} → IsTotalOrder order → (xs : List A)
    → ((k : ℕ) (d : A) → k + 1 < length xs → order (get_or xs k d) (get_or xs (k + 1) d) ≡ Less) → IsStrictlySortedBy order xs
unfolding IsStrictlySortedBy
strictly_sorted o [] h = tt
strictly_sorted o (x ∷ []) h = (tt, tt)
strictly_sorted {A} {order} o (x ∷ y ∷ ys) h =
    let rest = strictly_sorted o (y ∷ ys) (λ k d lt. let up : suc k + 1 ≡ suc (k + 1) = omega arith in let r = h (suc k) d (omega arith) in rw up at r) in
    let first : order x y ≡ Less = h 0 x (omega arith) in
    ((first, each_weaker (λ z k. o.trans x y z first k) ys rest.0), rest)

found : {A : Type 0} (same : A → A → Bool) (xs ys : List A) → (some_twice same xs ≡ false → IsDistinct same ys) → (k : ℕ) → k + 1 < length ys
    → ((d : A) → same (get_or ys k d) (get_or ys (k + 1) d) ≡ true) → (twice : Bool) → twice ≡ some_twice same xs → true ≡ twice
found same xs ys once k lt h true e = refl
found same xs [] once k lt h false e = absurd (omega arith)
found same xs (y ∷ ys) once k lt h false e =
    let up : k < k + 1 = omega arith in
    let ne = apart_from_distinct same (y ∷ ys) k (k + 1) y (once (sym e)) up lt in
    cc (ne, h y)

-- no neighbours of the sorted items are equal
pub some_twice_fails : {A : Type 0} (order : A → A → Ordering) (same : A → A → Bool) → IsTotalOrder order → ((x y : A) → same x y ≡ eq_by_cmp order x y)
    → (xs ys : List A) → IsPermutation xs ys → IsSorted order ys → ((k : ℕ) (d : A) → k + 1 < length ys → same (get_or ys k d) (get_or ys (k + 1) d) ≡ false)
    → false ≡ some_twice same xs
some_twice_fails {A} order same o ties xs ys moved sorted h =
    let strict : IsStrictlySortedBy order ys =
    strictly_sorted o ys (λ k d lt. let a = get_or ys k d in let b = get_or ys (k + 1) d in
    rises (order a b) (order b a) (o.antisymm b a) (sorted k d (omega arith) lt) (ap not (sym (sym (ties a b) ∙ h k d lt)))) in
    let distinct : IsDistinct (eq_by_cmp order) xs =
    IsDistinct-IsPermutation (eq_by_cmp order) (eq_by_cmp_equiv o).symm ys xs (IsPermutation-sym xs ys moved) (IsDistinct-from_sorted order ys strict) in
    sym (once_from_distinct same xs (subst (λ (e : A → A → Bool). IsDistinct e xs) (λ i x y. sym (ties x y) i) distinct))

-- some neighbours of the sorted items are equal
pub one_twice : {A : Type 0} (order : A → A → Ordering) (same : A → A → Bool) → IsTotalOrder order → ((x y : A) → same x y ≡ eq_by_cmp order x y)
    → (xs ys : List A) → IsPermutation xs ys → (k : ℕ) → k + 1 < length ys → ((d : A) → same (get_or ys k d) (get_or ys (k + 1) d) ≡ true)
    → true ≡ some_twice same xs
one_twice {A} order same o ties xs ys moved k lt h =
    let once = IsDistinct-IsPermutation same (λ x y. ties x y ∙ (eq_by_cmp_equiv o).symm x y ∙ sym (ties y x)) xs ys moved in
    found same xs ys (λ e. once (distinct_from_once same xs e)) k lt h (some_twice same xs) refl

-- what two places side by side hold is read at any default
pub read_neighbours : {A : Type 0} (same : A → A → Bool) (xs : List A) (i : ℕ) (a b : A) (answer : Bool) → 0 < i → i < length xs → a ≡ get_or xs (i - 1) a
    → b ≡ get_or xs i b → answer ≡ same a b → (k : ℕ) (d : A) → k + 1 ≡ i → same (get_or xs k d) (get_or xs (k + 1) d) ≡ answer
read_neighbours same xs i a b answer some lt ea eb e k d up =
    let before : k ≡ i - 1 = omega arith in
    let below : i - 1 < length xs = omega arith in
    ap (λ n. same (get_or xs n d) (get_or xs (k + 1) d)) before ∙ ap (λ n. same (get_or xs (i - 1) d) (get_or xs n d)) up
    ∙ sym (e ∙ ap (λ x. same x b) (get_or_read xs (i - 1) a below ea d) ∙ ap (same (get_or xs (i - 1) d)) (get_or_read xs i b lt eb d))

any_map : {A B : Type 0} (f : A → B) (test : B → Bool) (xs : List A) → list_any test (map f xs) ≡ list_any (λ x. test (f x)) xs
any_map f test [] = refl
any_map f test (x ∷ xs) = ap (λ b. test (f x) || b) (any_map f test xs)

pub some_twice-map : {A B : Type 0} (f : A → B) (same : B → B → Bool) (xs : List A) → some_twice same (map f xs) ≡ some_twice (λ x y. same (f x) (f y)) xs
some_twice-map f same [] = refl
some_twice-map f same (x ∷ xs) =
    ap (λ b. b || some_twice same (map f xs)) (any_map f (same (f x)) xs) ∙ ap (λ b. list_any (λ y. same (f x) (f y)) xs || b) (some_twice-map f same xs)

-- two lists that are alike at the parts that are compared
pub some_twice_alike : {A B C : Type 0} (f : A → C) (g : B → C) (same : C → C → Bool) (xs : List A) (ys : List B) → map f xs ≡ map g ys
    → some_twice (λ x y. same (f x) (f y)) xs ≡ some_twice (λ x y. same (g x) (g y)) ys
some_twice_alike f g same xs ys e = sym (some_twice-map f same xs) ∙ ap (some_twice same) e ∙ some_twice-map g same ys

-- one item more of two lists that are alike
pub alike_more : {A B C : Type 0} (f : A → C) (g : B → C) (xs : List A) (x : A) (ys : List B) (i : ℕ) (y : B) → i < length ys → y ≡ get_or ys i y
    → map f xs ≡ map g (take i ys) → f x ≡ g y → map f (xs ++ x ∷ []) ≡ map g (take (i + 1) ys)
alike_more f g xs x ys i y lt e before here =
    map-append f xs (x ∷ []) ∙ ap (λ l. l ++ f x ∷ []) before ∙ ap (λ z. map g (take i ys) ++ z ∷ []) here
    ∙ sym (ap (map g) (take_more ys i y lt ∙ ap (λ z. take i ys ++ z ∷ []) (sym e)) ∙ map-append g (take i ys) (y ∷ []))

-- both parts of two names, as the builder lends them
abbrev pub texts_of : Bor (List ℕ) × Bor (List ℕ) → List ℕ × List ℕ
texts_of p = (p.0.now, p.1.now)

abbrev pub are_same : List ℕ × List ℕ → List ℕ × List ℕ → Bool
are_same p q = is_same p.0 q.0 && is_same p.1 q.1

module _ {A : Type 0} (same : A → A → Bool) where
  once_from : (from : (a b : A) → a ≡ b → same a b ≡ true) (xs : List A) → some_twice same xs ≡ false → Distinct xs
  once_from from [] h = tt
  once_from from (x ∷ xs) h =
      let p = or_parts (list_any (same x) xs) (some_twice same xs) h in
      (each_weaker (λ y n e. both_ways (same x y) n (from x y (sym e))) xs (each_fails (same x) xs p.0), once_from from xs p.1)

  not_twice : (to : (a b : A) → same a b ≡ true → a ≡ b) (xs : List A) → Distinct xs → some_twice same xs ≡ false
  not_twice to [] d = refl
  not_twice to (x ∷ xs) d =
      or_from _ _ (none_passes (same x) xs (each_weaker (λ y n. false_from_ne_true (same x y) (λ e. n (sym (to x y e)))) xs d.0)) (not_twice to xs d.1)

-- distinct items stay so
module _ {A B : Type 0} (P : A → Type 0) (f : A → B) (apart : (x y : A) → P x → P y → f x ≡ f y → x ≡ y) where
  lacks_mapped : (x : A) (xs : List A) → P x → All P xs → Lacks x xs → Lacks (f x) (map f xs)
  lacks_mapped x [] p h l = tt
  lacks_mapped x (y ∷ ys) p h l = (λ e. l.0 (apart y x (All-head P y ys h) p e), lacks_mapped x ys p (All-tail P y ys h) l.1)

  pub distinct_mapped : (xs : List A) → All P xs → Distinct xs → Distinct (map f xs)
  distinct_mapped [] h d = tt
  distinct_mapped (x ∷ xs) h d = (lacks_mapped x xs (All-head P x xs h) (All-tail P x xs h) d.0, distinct_mapped xs (All-tail P x xs h) d.1)

all_any : {A : Type 0} (xs : List A) → All (λ (x : A). Unit {0}) xs
all_any xs k d l = tt

-- the names as they are written

names_made : (attributes : List Attribute) → map (λ (a : WrittenAttr). a.name) (map attribute_made attributes) ≡ map name_made (map (λ (a : Attribute). a.name) attributes)
names_made [] = refl
names_made (a ∷ rest) = ap (λ ns. name_made a.name ∷ ns) (names_made rest)

names_written : (attributes : List Attribute) → map (λ (a : Attribute). name_written a.name) attributes ≡ map name_written (map (λ (a : Attribute). a.name) attributes)
names_written [] = refl
names_written (a ∷ rest) = ap (λ ns. name_written a.name ∷ ns) (names_written rest)

names_are_names : (attributes : List Attribute) → All IsAttribute attributes → All IsQName (map (λ (a : Attribute). a.name) attributes)
names_are_names [] h = All-nil IsQName
names_are_names (a ∷ rest) h = All-cons IsQName a.name _ (All-head IsAttribute a rest h).named (names_are_names rest (All-tail IsAttribute a rest h))

pub one_made : (m n : QName) → name_made m ≡ name_made n → m ≡ n
one_made m n e =
    let p : m.prefix ≡ n.prefix = encodes_same _ _ (ap (λ (x : WrittenName). x.prefix) e) in
    let l : m.local ≡ n.local = encodes_same _ _ (ap (λ (x : WrittenName). x.local) e) in
    λ i. record { prefix = p i; local = l i }

written_apart : (m n : QName) → IsQName m → IsQName n → name_written m ≡ name_written n → m ≡ n
written_apart m n a b e = (one_name m n [] [] a b tt tt (append-nil _ ∙ e ∙ sym (append-nil _))).0

pub written_same : (a b : WrittenName) → is_written_same a b ≡ true → a ≡ b
written_same a b h =
    let f = and_parts (is_same a.prefix b.prefix) (is_same a.local b.local) h in
    let p : a.prefix ≡ b.prefix = same_text _ _ (sym f.0) in
    let l : a.local ≡ b.local = same_text _ _ (sym f.1) in
    λ i. record { prefix = p i; local = l i }

pub same_written : (a b : WrittenName) → a ≡ b → is_written_same a b ≡ true
same_written a b e = and_from _ _ (same_from _ _ (ap (λ (x : WrittenName). x.prefix) e)) (same_from _ _ (ap (λ (x : WrittenName). x.local) e))

pub written_once : (attributes : List Attribute) → All IsAttribute attributes → some_twice is_written_same (map (λ (a : WrittenAttr). a.name) (map attribute_made attributes)) ≡ false
    → NoneTwice (map (λ (a : Attribute). name_written a.name) attributes)
written_once attributes h e =
    let names = map (λ (a : Attribute). a.name) attributes in
    let made : Distinct (map name_made names) = subst Distinct (names_made attributes) (once_from is_written_same same_written _ e) in
    none_twice _ (subst Distinct (sym (names_written attributes))
    (distinct_mapped IsQName name_written written_apart names (names_are_names attributes h) (distinct_made name_made names made)))

pub once_written : (attributes : List Attribute) → NoneTwice (map (λ (a : Attribute). name_written a.name) attributes)
    → some_twice is_written_same (map (λ (a : WrittenAttr). a.name) (map attribute_made attributes)) ≡ false
once_written attributes n =
    let names = map (λ (a : Attribute). a.name) attributes in
    let written : Distinct (map name_written names) = subst Distinct (names_written attributes) (distinct _ n) in
    ap (some_twice is_written_same) (names_made attributes) ∙ some_twice-map name_made is_written_same names
    ∙ not_twice (λ l m. is_written_same (name_made l) (name_made m)) (λ l m e. one_made l m (written_same _ _ e)) names (distinct_made name_written names written)

-- expanded names

name_same : (a b : Name) → is_same_name a b ≡ true → a ≡ b
name_same a b h =
    let f = and_parts (is_same a.ns b.ns) (is_same a.local b.local) h in
    let p : a.ns ≡ b.ns = same_text _ _ (sym f.0) in
    let l : a.local ≡ b.local = same_text _ _ (sym f.1) in
    λ i. record { ns = p i; local = l i }

same_name : (a b : Name) → a ≡ b → is_same_name a b ≡ true
same_name a b e = and_from _ _ (same_from _ _ (ap (λ (x : Name). x.ns) e)) (same_from _ _ (ap (λ (x : Name). x.local) e))

some_apart : (m n : Name) → Unit {0} → Unit {0} → Some m ≡ Some n → m ≡ n
some_apart m n _ _ e = cc e

pub names_once : (names : List Name) → some_twice is_same_name names ≡ false → NoneTwice (map (λ (n : Name). Some n) names)
names_once names e = none_twice _ (distinct_mapped (λ m. Unit {0}) (λ (n : Name). Some n) some_apart names (all_any names) (once_from is_same_name same_name names e))

pub once_names : (names : List Name) → NoneTwice (map (λ (n : Name). Some n) names) → some_twice is_same_name names ≡ false
once_names names n = not_twice is_same_name name_same names (distinct_made (λ (m : Name). Some m) names (distinct _ n))
