-- The least rule that is broken, from those of parts, and items that pass a test.
use Rattle.std.proofs.Common.{◌≡◌, ℕ, Bool, cond, true, false, if◌then◌else◌, List, [], ◌∷◌, ◌++◌, Option, Some, None, ◌⊎◌, inl, inr, ⊎_elim, refl, sym, ◌∙◌, ap, subst, arith, append_assoc, ◌↔◌, ◌≤◌, ◌<◌, ◌+◌, ◌||◌, map, drop, length, get_or}
use Rattle.std.proofs.lemmas.Bool.{or_cases, or_left, or_right}
use Rattle.std.proofs.lemmas.List.{append-nil, drop_all, drop_more}
use Rattle.std.specs.Cmp.{ranked}
use Rattle.std.specs.List.{list_any}
use Rattle.std.specs.Ordering.{is_lt, nat_cmp, ord_min}
use Rattle.std.specs.declared.cmp.Ordering.TheVariants.{Less, Equal, Greater}
use Rattle.odd_text.specs.Lesser.{lesser_of}
use Rattle.odd_text.proofs.InList.{nothing_stands, once_push, StandsOnce, first_or_later, stands_first, stands_later}
use Rattle.odd_text.specs.Standing.{StandsIn}
use Rattle.odd_text.specs.Least.{Among, IsLeast}

-- faults that are the same have the same least rule
pub least_same : (P Q : ℕ → Type 0) (o : Option ℕ) → ((rule : ℕ) → P rule → Q rule) → ((rule : ℕ) → Q rule → P rule) → IsLeast P o → IsLeast Q o
least_same P Q None into back h = λ rule q. h rule (back rule q)
least_same P Q (Some rule) into back h = (into rule h.0, λ other q. h.1 other (back other q))

-- the lesser of two rules, where there are two
abbrev pub lesser_rule : Option ℕ → Option ℕ → Option ℕ
lesser_rule = lesser_of nat_cmp

-- the lesser of two rules is one of them, and above neither
lesser_parts : (m n : ℕ) → ((ord_min nat_cmp m n ≡ m) ⊎ (ord_min nat_cmp m n ≡ n)) × (ord_min nat_cmp m n ≤ m) × (ord_min nat_cmp m n ≤ n)
lesser_parts m n =
    elim (nat_cmp n m) as (λ r. r ≡ nat_cmp n m → ((cond (is_lt r) n m ≡ m) ⊎ (cond (is_lt r) n m ≡ n)) × (cond (is_lt r) n m ≤ m) × (cond (is_lt r) n m ≤ n)) [
      | Less ↦ λ e. let h : n < m = ranked n m Less e in (inr refl, omega arith, omega arith)
      | Equal ↦ λ e. let h : n ≡ m = ranked n m Equal e in (inl refl, omega arith, omega arith)
      | Greater ↦ λ e. let h : m < n = ranked n m Greater e in (inl refl, omega arith, omega arith)
    ] refl

-- the least rule of faults of two kinds is the lesser of the least of each
pub least_or : (P Q : ℕ → Type 0) (a b : Option ℕ) → IsLeast P a → IsLeast Q b → IsLeast (λ rule. P rule ⊎ Q rule) (lesser_rule a b)
least_or P Q None b h k = least_same Q (λ rule. P rule ⊎ Q rule) b (λ rule q. inr q) (λ rule f. ⊎_elim (λ p. absurd (h rule p)) (λ q. q) f) k
least_or P Q (Some m) None h k = (inl h.0, λ other f. ⊎_elim (λ p. h.1 other p) (λ q. absurd (k other q)) f)
least_or P Q (Some m) (Some n) h k =
    let parts = lesser_parts m n in (
      ⊎_elim (λ e. inl (subst P (sym e) h.0)) (λ e. inr (subst Q (sym e) k.0)) parts.0,
      λ other f. ⊎_elim (λ p. let l = h.1 other p in omega (arith, parts.1)) (λ q. let l = k.1 other q in omega (arith, parts.2)) f,
    )

-- the least where there is one fault at most, and a test tells whether there is
pub least_if : (Fault : ℕ → Type 0) (b : Bool) (rule : ℕ) → (b ≡ true → Fault rule) → ((other : ℕ) → Fault other → (b ≡ true) × (other ≡ rule)) → IsLeast Fault (if b then Some rule else None)
least_if Fault true rule into back = (into refl, λ other f. omega (arith, (back other f).1))
least_if Fault false rule into back = λ other f. let no : false ≡ true = (back other f).0 in cc

-- the least rule with one item more
pub least_more : {A : Type 0} (Fault : A → ℕ → Type 0) (items : List A) (x : A) (a b : Option ℕ) → IsLeast (Among Fault items) a → IsLeast (Fault x) b
    → IsLeast (Among Fault (items ++ x ∷ [])) (lesser_rule a b)
least_more Fault items x a b h k =
    least_same (λ rule. Among Fault items rule ⊎ Fault x rule) (Among Fault (items ++ x ∷ [])) (lesser_rule a b)
    (λ rule f. (once_push (λ y. Fault y rule) items x).1 f) (λ rule f. (once_push (λ y. Fault y rule) items x).0 f)
    (least_or (Among Fault items) (Fault x) a b h k)

-- the least rule so far, where the rest of all items is still to come
pub record LeastSoFar {A : Type 0} (Fault : A → ℕ → Type 0) (all rest : List A) (least : Option ℕ) : Type 0 where
  pub passed : List A
  pub parted : all ≡ passed ++ rest
  pub found : IsLeast (Among Fault passed) least

-- at first no item was passed
pub none_passed : {A : Type 0} (Fault : A → ℕ → Type 0) (all : List A) → LeastSoFar Fault all all None
none_passed Fault all = record { passed = []; parted = refl; found = λ rule f. nothing_stands f.0 f.1 }

-- an item is passed
pub one_passed : {A : Type 0} (Fault : A → ℕ → Type 0) (all rest later : List A) (x : A) (a b new : Option ℕ) → LeastSoFar Fault all rest a → rest ≡ x ∷ later → IsLeast (Fault x) b
    → new ≡ lesser_rule a b → LeastSoFar Fault all later new
one_passed Fault all rest later x a b new so_far is one e = record {
  passed = so_far.passed ++ x ∷ [];
  parted = so_far.parted ∙ ap (λ xs. so_far.passed ++ xs) is ∙ sym (append_assoc so_far.passed (x ∷ []) later);
  found = subst (IsLeast (Among Fault (so_far.passed ++ x ∷ []))) (sym e) (least_more Fault so_far.passed x a b so_far.found one);
}

-- at the end all were
pub all_passed : {A : Type 0} (Fault : A → ℕ → Type 0) (all rest : List A) (a : Option ℕ) → LeastSoFar Fault all rest a → rest ≡ [] → IsLeast (Among Fault all) a
all_passed Fault all rest a so_far is =
    subst (λ xs. IsLeast (Among Fault xs) a) (sym (so_far.parted ∙ ap (λ xs. so_far.passed ++ xs) is ∙ append-nil so_far.passed)) so_far.found

-- a test of what a map gives
pub any_map : {X Y : Type 0} (test : Y → Bool) (f : X → Y) (xs : List X) → list_any (λ x. test (f x)) xs ≡ list_any test (map f xs)
any_map test f [] = refl
any_map test f (x ∷ xs) = ap (λ b. test (f x) || b) (any_map test f xs)

-- some item passes a test where one stands in the list that does
pub any_stands : {A : Type 0} (test : A → Bool) (xs : List A) → (list_any test xs ≡ true) ↔ StandsOnce (λ x. test x ≡ true) xs
any_stands {A} test xs = (into xs, λ s. back xs s.0 s.1 s.2)
  where
    into : (xs : List A) → list_any test xs ≡ true → StandsOnce (λ x. test x ≡ true) xs
    into [] h = cc
    into (x ∷ xs) h =
        ⊎_elim (λ e. (x, stands_first x xs, e)) (λ e. let s = into xs e in (s.0, stands_later x s.0 xs s.1, s.2)) (or_cases (test x) (list_any test xs) h)

    back : (xs : List A) (x : A) → StandsIn xs x → test x ≡ true → list_any test xs ≡ true
    back [] x s e = absurd (nothing_stands x s)
    back (y ∷ xs) x s e =
        ⊎_elim (λ same. or_left (test y) (list_any test xs) (ap test (sym same) ∙ e)) (λ later. or_right (test y) (list_any test xs) (back xs x later e)) (first_or_later y x xs s)

-- what is left of a list from a place on, seen by a map, begins with what stands there
pub begins_seen : {X Y : Type 0} (f : X → Y) (xs : List X) (i : ℕ) (d : X) → i < length xs → map f (drop i xs) ≡ f (get_or xs i d) ∷ map f (drop (i + 1) xs)
begins_seen f xs i d h = ap (map f) (drop_more xs i d h)

-- and at the end nothing is left
pub none_left : {X Y : Type 0} (f : X → Y) (xs : List X) (i : ℕ) → length xs ≤ i → map f (drop i xs) ≡ []
none_left f xs i h = ap (map f) (drop_all i xs h)

-- the least of one rule that is broken where an item passes a test
pub least_any : {A : Type 0} (test : A → Bool) (xs : List A) (rule : ℕ) → IsLeast (λ other. StandsOnce (λ x. test x ≡ true) xs × (other ≡ rule)) (if list_any test xs then Some rule else None)
least_any test xs rule =
    least_if (λ other. StandsOnce (λ x. test x ≡ true) xs × (other ≡ rule)) (list_any test xs) rule (λ h. ((any_stands test xs).0 h, refl)) (λ other f. ((any_stands test xs).1 f.0, f.1))
