-- Classes of characters, texts with one character more, fronts of lists, and the numbers of references.
use Rattle.std.proofs.Common.{◌≡◌, ℕ, ◌<◌, ◌≤◌, true, ◌&&◌, ◌==◌, nat_le, leb, ⊎_elim, sym, ◌∙◌, arith, ◌≢◌, Bool, false, List, [], ◌∷◌, ◌++◌, refl, length, ap, append-nil, map, cond, subst, append_assoc, ◌+◌, ◌*◌, ◌-◌, nat_lt, if◌then◌else◌, mul-le-mul_left}
use Rattle.std.proofs.lemmas.Bool.{cases_order, eq-eqb, ne_eqb, le-leb, lt-leb, and_from, and_left, and_right, both_ways, and_parts}
use Rattle.std.proofs.lemmas.Bool.Decides.{nat_tests}
use Rattle.std.proofs.lemmas.List.{append_cancel_left}
use Rattle.std.proofs.lemmas.Str.{encodes-append, length-le-encodes}
use Rattle.std.specs.Char.{IsScalar, digit_value}
use Rattle.std.specs.List.{list_all, AllByRecursion}
use Rattle.std.specs.Prelude.{encode_utf8, filter}
use Rattle.std.specs.Str.{encode_utf8_all}
use Rattle.odd_tokens.specs.Characters.{last_character, is_char, is_name_start, is_name_char, is_ncname, is_within}
use Rattle.odd_tokens.specs.Lexing.{is_empty}
use Rattle.odd_tokens.specs.Tokens.{NoneTwice, is_decimal_digit, is_hexadecimal_digit}

-- a range of one character
pub within_one : (k c : ℕ) → (nat_le k c && nat_le c k) ≡ (c == k)
within_one k c = ⊎_elim same (⊎_elim below above) (cases_order c k)
  where
    same : c ≡ k → (nat_le k c && nat_le c k) ≡ (c == k)
    same e = and_from (leb k c) (leb c k) (le-leb k c (omega arith)) (le-leb c k (omega arith)) ∙ sym (eq-eqb c k e)

    below : c < k → (nat_le k c && nat_le c k) ≡ (c == k)
    below h = and_left (leb k c) (leb c k) (lt-leb k c h) ∙ sym (ne_eqb c k (λ e. omega arith))

    above : k < c → (nat_le k c && nat_le c k) ≡ (c == k)
    above h = and_right (leb k c) (leb c k) (lt-leb c k h) ∙ sym (ne_eqb c k (λ e. omega arith))

-- a character of XML is one of Unicode
pub char_scalar : (n : ℕ) → is_char n ≡ true → IsScalar n
unfolding is_char
char_scalar n h = grind (arith, nat_tests)

pub char_is_small : (c : ℕ) → is_char c ≡ true → c ≤ last_character
unfolding is_char
char_is_small c h = grind (arith, nat_tests)

-- the characters of a name are characters of XML

pub start_is_legal : (c : ℕ) → is_name_start c ≡ true → is_char c ≡ true
unfolding is_name_start is_char
start_is_legal c h = grind (arith, nat_tests)

pub name_char_is_legal : (c : ℕ) → is_name_char c ≡ true → is_char c ≡ true
unfolding is_name_char is_char
name_char_is_legal c h = grind (arith, nat_tests, start_is_legal)

-- the next item, where there is one, fails the test
abbrev pub Stops : {X : Type 0} → (X → Bool) → List X → Type 0
Stops p [] = Unit {0}
Stops p (c ∷ cs) = p c ≡ false

-- a front of items that pass, up to one that fails
pub same_front : {X : Type 0} (p : X → Bool) (xs ys more rest : List X) → list_all p xs ≡ true → list_all p ys ≡ true → Stops p more → Stops p rest
    → xs ++ more ≡ ys ++ rest → (xs ≡ ys) × (more ≡ rest)
same_front p [] [] more rest a b s t e = (refl, e)
same_front p [] (y ∷ ys) more rest a b s t e = absurd (both_ways _ (rw e at s) (and_parts _ _ b).0)
same_front p (x ∷ xs) [] more rest a b s t e = absurd (both_ways _ (rw (← e) at t) (and_parts _ _ a).0)
same_front p (x ∷ xs) (y ∷ ys) more rest a b s t e =
    let f : (xs ≡ ys) × (more ≡ rest) = same_front p xs ys more rest (and_parts (p x) (list_all p xs) a).1 (and_parts (p y) (list_all p ys) b).1 s t (cc) in
    (cc f.0, f.1)

pub all_weaker : {X : Type 0} (p q : X → Bool) → ((x : X) → p x ≡ true → q x ≡ true) → (xs : List X) → list_all p xs ≡ true → list_all q xs ≡ true
all_weaker p q h [] a = refl
all_weaker p q h (x ∷ xs) a = and_from _ _ (h x (and_parts _ _ a).0) (all_weaker p q h xs (and_parts _ _ a).1)

-- a front up to a mark, where P says that the mark is not met earlier
module _ (mark : List ℕ) (P : List ℕ → Type 0) (later : (c : ℕ) (cs : List ℕ) → P (c ∷ cs) → P cs)
    (apart : (c : ℕ) (cs more rest : List ℕ) → P (c ∷ cs) → c ∷ (cs ++ (mark ++ more)) ≢ mark ++ rest) where
  pub same_until : (xs ys more rest : List ℕ) → P xs → P ys → xs ++ (mark ++ more) ≡ ys ++ (mark ++ rest) → (xs ≡ ys) × (more ≡ rest)
  same_until [] [] more rest a b e = (refl, append_cancel_left mark more rest e)
  same_until [] (y ∷ ys) more rest a b e = absurd (apart y ys rest more b (sym e))
  same_until (x ∷ xs) [] more rest a b e = absurd (apart x xs more rest a e)
  same_until (x ∷ xs) (y ∷ ys) more rest a b e =
      let f : (xs ≡ ys) × (more ≡ rest) = same_until xs ys more rest (later x xs a) (later y ys b) (cc) in
      (cc f.0, f.1)

pub not_empty : (cs : List ℕ) (c : ℕ) → cs ++ c ∷ [] ≢ []
not_empty [] c e = cc
not_empty (x ∷ xs) c e = cc

pub list_all_more : (p : ℕ → Bool) (cs : List ℕ) (c : ℕ) → list_all p cs ≡ true → p c ≡ true → list_all p (cs ++ c ∷ []) ≡ true
list_all_more p [] c a b = and_from _ _ b refl
list_all_more p (x ∷ xs) c a b = and_from _ _ (and_parts _ _ a).0 (list_all_more p xs c (and_parts _ _ a).1 b)

pub ncname_more : (cs : List ℕ) (c : ℕ) → is_ncname cs ≡ true → is_name_char c ≡ true → is_ncname (cs ++ c ∷ []) ≡ true
ncname_more [] c a b = cc
ncname_more (x ∷ xs) c a b = and_from _ _ (and_parts _ _ a).0 (list_all_more is_name_char xs c (and_parts _ _ a).1 b)

pub encoded_more : (cs : List ℕ) (c : ℕ) → encode_utf8_all (cs ++ c ∷ []) ≡ encode_utf8_all cs ++ encode_utf8 c
encoded_more cs c = encodes-append cs (c ∷ []) ∙ ap (λ bs. encode_utf8_all cs ++ bs) (append-nil (encode_utf8 c))

-- a text with a character has a byte
pub some_encoded : (c : ℕ) (cs : List ℕ) → is_empty (encode_utf8_all (c ∷ cs)) ≡ false
some_encoded c cs = some (encode_utf8_all (c ∷ cs)) (omega (arith, length-le-encodes (c ∷ cs)))
  where
    some : (bytes : List ℕ) → 1 ≤ length bytes → is_empty bytes ≡ false
    some [] h = absurd (omega arith)
    some (b ∷ bytes) h = refl

pub each_weaker : {A : Type 0} {P Q : A → Type 0} → ((x : A) → P x → Q x) → (xs : List A) → AllByRecursion P xs → AllByRecursion Q xs
each_weaker h [] k = tt
each_weaker h (x ∷ xs) k = (h x k.0, each_weaker h xs k.1)

-- the item is none of the list
abbrev pub Lacks : {A : Type 0} → A → List A → Type 0
Lacks {A} x = AllByRecursion (λ (y : A). y ≢ x)

abbrev pub Distinct : {A : Type 0} → List A → Type 0
Distinct [] = Unit {0}
Distinct (x ∷ xs) = Lacks x xs × Distinct xs

lacks_after : {A : Type 0} (x : A) (between after : List A) → NoneTwice (x ∷ (between ++ after)) → Lacks x after
lacks_after x between [] n = tt
lacks_after x between (y ∷ ys) n =
    (λ e. n [] between ys x (ap (λ z. x ∷ (between ++ z ∷ ys)) e), lacks_after x (between ++ y ∷ []) ys (rw (append_assoc between (y ∷ []) ys) n))

pub distinct : {A : Type 0} (xs : List A) → NoneTwice xs → Distinct xs
distinct [] n = tt
distinct (x ∷ xs) n = (lacks_after x [] xs n, distinct xs (λ before between after item e. n (x ∷ before) between after item (ap (λ ys. x ∷ ys) e)))

pub lacks_middle : {A : Type 0} (x y : A) (before after : List A) → Lacks x (before ++ y ∷ after) → y ≢ x
lacks_middle x y [] after l = l.0
lacks_middle x y (b ∷ bs) after l = lacks_middle x y bs after l.1

-- and back
pub none_twice : {A : Type 0} (xs : List A) → Distinct xs → NoneTwice xs
none_twice [] d [] between after item e = cc
none_twice [] d (b ∷ bs) between after item e = cc
none_twice (x ∷ xs) d [] between after item e =
    let same : x ≡ item = cc in
    let rest : xs ≡ between ++ item ∷ after = cc in
    lacks_middle x item between after (subst (Lacks x) rest d.0) (sym same)
none_twice (x ∷ xs) d (b ∷ bs) between after item e = none_twice xs d.1 bs between after item (cc e)

-- what is made into distinct items is distinct
pub lacks_made : {A B : Type 0} (f : A → B) (x : A) (xs : List A) → Lacks (f x) (map f xs) → Lacks x xs
lacks_made f x [] l = tt
lacks_made f x (y ∷ ys) l = (λ e. l.0 (ap f e), lacks_made f x ys l.1)

pub distinct_made : {A B : Type 0} (f : A → B) (xs : List A) → Distinct (map f xs) → Distinct xs
distinct_made f [] d = tt
distinct_made f (x ∷ xs) d = (lacks_made f x xs d.0, distinct_made f xs d.1)

-- what is kept of distinct items, each made into another
module _ {A B C : Type 0} (f : A → List ℕ) (h : A → C) (g : C → B) (p : C → Bool) (apart : (a b : A) → g (h a) ≡ g (h b) → f a ≡ f b) where
  kept_lacks : (x : A) (xs : List A) → Lacks (f x) (map f xs) → Lacks (g (h x)) (map g (filter p (map h xs)))
  kept_lacks x [] l = tt
  kept_lacks x (y ∷ ys) l =
      elim (p (h y)) as (λ b. Lacks (g (h x)) (map g (cond b (h y ∷ filter p (map h ys)) (filter p (map h ys))))) [
        | true ↦ (λ e. l.0 (apart y x e), kept_lacks x ys l.1)
        | false ↦ kept_lacks x ys l.1
      ]

  pub kept_distinct : (xs : List A) → Distinct (map f xs) → Distinct (map g (filter p (map h xs)))
  kept_distinct [] d = tt
  kept_distinct (x ∷ xs) d =
      elim (p (h x)) as (λ b. Distinct (map g (cond b (h x ∷ filter p (map h xs)) (filter p (map h xs))))) [
        | true ↦ (kept_lacks x xs d.0, kept_distinct xs d.1)
        | false ↦ kept_distinct xs d.1
      ]

-- what the digits make of the number before them
abbrev pub number_of : ℕ → ℕ → (ℕ → ℕ) → List ℕ → ℕ
number_of base so_far value [] = so_far
number_of base so_far value (d ∷ ds) = number_of base (so_far * base + value d) value ds

-- one more digit
pub number_push : (base n : ℕ) (value : ℕ → ℕ) (d : ℕ) (ds : List ℕ) → number_of base n value (ds ++ d ∷ []) ≡ number_of base n value ds * base + value d
number_push base n value d [] = refl
number_push base n value d (e ∷ ds) = number_push base (n * base + value e) value d ds

-- digits make a number no smaller
pub number_grows : (base n : ℕ) (value : ℕ → ℕ) (ds : List ℕ) → 1 ≤ base → n ≤ number_of base n value ds
number_grows base n value [] b = omega arith
number_grows base n value (d ∷ ds) b = omega (arith, number_grows base (n * base + value d) value ds b, mul-le-mul_left n b)

-- the lexer reads the digits of a base, and no other characters, with the values that they have
pub record IsBase (base : ℕ) (test : ℕ → Bool) (value : ℕ → ℕ) : Type 0 where
  pub some : 1 ≤ base
  pub tested : (d : ℕ) → nat_lt (digit_value d) base ≡ true → test d ≡ true
  pub below : (d : ℕ) → test d ≡ true → nat_lt (digit_value d) base ≡ true
  pub same : (d : ℕ) → test d ≡ true → digit_value d ≡ value d
  pub no_mark : (d : ℕ) → test d ≡ true → (d == 0x3B) ≡ false
  pub legal : (d : ℕ) → test d ≡ true → is_char d ≡ true

abbrev pub decimal_value : ℕ → ℕ
decimal_value d = d - 0x30

abbrev pub hexadecimal_value : ℕ → ℕ
hexadecimal_value d = if is_decimal_digit d then d - 0x30 else (if is_within 0x41 0x46 d then d - 0x37 else d - 0x57)

pub decimal_base : IsBase 10 is_decimal_digit decimal_value
unfolding is_char
decimal_base = record {
  some = omega arith;
  tested = λ d h. grind (arith, nat_tests);
  below = λ d h. grind (arith, nat_tests);
  same = λ d h. grind (arith, nat_tests);
  no_mark = λ d h. grind (arith, nat_tests);
  legal = λ d h. grind (arith, nat_tests);
}

pub hexadecimal_base : IsBase 16 is_hexadecimal_digit hexadecimal_value
unfolding is_char
hexadecimal_base = record {
  some = omega arith;
  tested = λ d h. grind (arith, nat_tests);
  below = λ d h. grind (arith, nat_tests);
  same = λ d h. grind (arith, nat_tests);
  no_mark = λ d h. grind (arith, nat_tests);
  legal = λ d h. grind (arith, nat_tests);
}

-- which tells the two bases apart
pub decimal_no_x : (d : ℕ) → is_decimal_digit d ≡ true → (d == 0x78) ≡ false
decimal_no_x d h = grind (arith, nat_tests)
