-- The defines of what a library holds, and those of conditions, which have distinct names and rise.
use Rattle.std.proofs.Common.{◌≡◌, ℕ, List, Some, inl, inr, ◌<◌, ◌≤◌, ◌+◌, ◌^◌, suc, Bool, true, false, cond, [], ◌∷◌, ◌++◌, get_or, length, map, refl, sym, ap, subst, ◌∙◌, arith}
use Rattle.std.proofs.lemmas.Bool.{false_from_ne_true}
use Rattle.std.proofs.lemmas.Cmp.{eq_by_cmp_equiv, nat_list_cmp_total, on_total, then_total}
use Rattle.std.proofs.lemmas.Fmt.{decimal_injective}
use Rattle.std.proofs.lemmas.List.{append_cancel_left}
use Rattle.std.proofs.lemmas.List.Sorted.{Contains-permutation, IsPermutation-sym, ranks_by}
use Rattle.std.proofs.lemmas.List.Sums.{count_by-le-length, sum_by-append, sum_by-cons, sum_by-le-sum_by}
use Rattle.std.proofs.lemmas.Map.Keys.{IsDistinct-IsPermutation}
use Rattle.std.specs.Cmp.{IsStrictWeakOrder, IsTotalOrder, tied_itself}
use Rattle.std.specs.Cmp.Lexicographic.{same_text, texts_ties}
use Rattle.std.specs.FinMap.{find, nat_cmp-IsAntisymmetric, slice_cmp-IsAntisymmetric}
use Rattle.std.specs.List.{AllByRecursion, IsDistinct}
use Rattle.std.specs.List.Sorted.{IsPermutation, IsSorted}
use Rattle.std.specs.Ordering.{eq_by_cmp, is_eq, is_lt, ordering_reverse, ordering_then}
use Rattle.std.specs.Prelude.{codes, sum_by}
use Rattle.std.specs.declared.cmp.Ordering.{Ordering}
use Rattle.std.specs.declared.cmp.Ordering.TheVariants.{Less, Equal, Greater}
use Rattle.compile_defines.proofs.Standing.{HoldsElementAt, held_stands, is_less, stands_either, stands_left, stands_right}
use Rattle.odd_content.specs.ConditionOrder.{condition_cmp, condition_exact, condition_total}
use Rattle.compile_defines.specs.Contents.{condition_name, number_of}
use Rattle.odd_content.specs.declared.content.Condition.{Condition}
use Rattle.odd_text.proofs.SetOf.{first_below, none_rising, rest_rising, rising_more, set_of_is}
use Rattle.odd_text.specs.Sorted.{AreRising, IsSet, set_of}
use Rattle.odd_graph.proofs.Chains.{first_step}
use Rattle.odd_library.specs.Formed.{IsFormedLibrary}
use Rattle.odd_library.specs.Odd.{element_key}
use Rattle.odd_library.specs.declared.library.Component.{Component}
use Rattle.odd_library.specs.declared.library.Component.TheVariants as component
use Rattle.odd_library.specs.declared.library.Library.{Library}
use Rattle.odd_meaning.specs.Classes.{AreMembers, IsElementOf, IsListed, IsMember, Members}
use Rattle.odd_meaning.specs.Links.{IsLinked, class_key, classes_of}
use Rattle.odd_text.specs.Key.{key_cmp}
use Rattle.odd_text.specs.KeyOrder.{both_equal, key_total, key_exact}
use Rattle.odd_text.specs.declared.key.Key.{Key}
use Rattle.odd_text.proofs.InList.{contained, first_or_later, map_stands, standing, stands_first, stands_later, stands_map}
use Rattle.odd_text.specs.Standing.{StandsIn}
use Rattle.rng_grammar.specs.declared.grammar.Define.{Define}
use Rattle.compile_defines.specs.Blocks.{IsConditionDefine}
use Rattle.compile_defines.specs.Compiled.{condition_define, define_cmp}

-- what is found at a key is an entry of the library
pub entry_stands : (library : Library) (key : Key) (part : Component) → find key_cmp key library.parts ≡ Some part → StandsIn library.parts (key, part)
entry_stands library key part e = held_stands key_cmp key_total key_exact key part library.parts e

-- the class of listed members is one of type `model`, and these are its members
pub listed_is : (library : Library) (members : Members) (class : List ℕ) (idents : List (List ℕ)) → AreMembers library members → members class ≡ Some idents → IsListed library class (Some idents)
listed_is library members class idents are e = rw e at (are class)

-- a member of a class of a formed library is a held element
member_held : (library : Library) (class ident : List ℕ) → IsFormedLibrary library → IsMember library class (element_key ident) → HoldsElementAt library ident
member_held library class ident f m =
    let first = first_step (IsLinked classes_of library) (element_key ident) (class_key class) m in
    of_kind first.1.part first.1.held
  where
    of_kind : (part : Component) → find key_cmp (element_key ident) library.parts ≡ Some part → HoldsElementAt library ident
    of_kind (component.Element part) e = (part, e)
    of_kind (component.Class part) e = absurd (f.formed (element_key ident) (component.Class part) e).1
    of_kind (component.Macro part) e = absurd (f.formed (element_key ident) (component.Macro part) e).1
    of_kind (component.Datatype part) e = absurd (f.formed (element_key ident) (component.Datatype part) e).1

-- and so one of its elements
pub element_of : (library : Library) (class ident : List ℕ) → IsFormedLibrary library → IsMember library class (element_key ident) → IsElementOf library class ident
element_of library class ident f m = let h = member_held library class ident f m in record { part = h.0; held = h.1; member = m }

-- what neither falls nor ties is less
less_left : (r : Ordering) → is_lt (ordering_reverse r) ≡ false → is_eq r ≡ false → r ≡ Less
less_left Less h e = refl
less_left Equal h e = cc
less_left Greater h e = cc

module _ {A : Type 0} {order : A → A → Ordering} (total : IsTotalOrder order) where
  -- sorted items of which no two tie rise
  next_less : (before after : List A) (item next : A) → IsSorted order (before ++ item ∷ (next ∷ after)) → IsDistinct (eq_by_cmp order) (before ++ item ∷ (next ∷ after)) → order item next ≡ Less
  unfolding IsDistinct
  next_less [] after item next up apart = less_left (order item next) (ap is_lt (sym (total.antisymm next item)) ∙ up 0 item (omega arith) (omega arith)) apart.0.0
  next_less (x ∷ before) after item next up apart =
      let rest = before ++ item ∷ (next ∷ after) in
      next_less before after item next
      (λ k d low lt. subst (λ m. is_lt (order (get_or (x ∷ rest) m d) (get_or rest k d)) ≡ false) {x = suc k + 1} {y = suc (k + 1)} (omega arith) (up (suc k) d (omega arith) (omega arith)))
      apart.1

-- what holds of the image of each item holds of all images
images_all : {A B : Type 0} (P : B → Type 0) (f : A → B) (xs : List A) → ((x : A) → StandsIn xs x → P (f x)) → AllByRecursion P (map f xs)
images_all P f [] h = tt
images_all P f (x ∷ xs) h = (h x (stands_first x xs), images_all P f xs (λ y s. h y (stands_later x y xs s)))

-- a test that passes less counts no more
one_at_most : (b c : Bool) → (b ≡ true → c ≡ true) → cond {A = ℕ} b 1 0 ≤ cond {A = ℕ} c 1 0
one_at_most true c h = let is : cond {A = ℕ} c 1 0 ≡ 1 = ap (λ t. cond {A = ℕ} t 1 0) (h refl) in omega arith
one_at_most false c h = omega arith

-- the first define's name is below the other's
abbrev pub is_lower : Define → Define → Bool
is_lower one other = is_lt (define_cmp one other)

-- which orders defines
pub lower_ranks : IsStrictWeakOrder is_lower
lower_ranks = ranks_by nat_list_cmp_total (λ (d : Define). d.name)

-- and totally
pub define_total : IsTotalOrder define_cmp
define_total = on_total (λ (d : Define). d.name) nat_list_cmp_total

-- what stands in a list and is not a certain item stands there without it
left_standing : {A : Type 0} (before after : List A) (x y : A) → StandsIn (before ++ x ∷ after) y → (y ≡ x → ⊥) → StandsIn (before ++ after) y
left_standing before after x y s other = elim (stands_either before (x ∷ after) y s) [
  | inl here ↦ stands_left before after y here
  | inr there ↦ elim (first_or_later x y after there) [ inl e ↦ absurd (other e) | inr later ↦ stands_right before after y later ]
]

module _ (conditions : List Condition) (rising : AreRising condition_cmp conditions) (small : length conditions + 1 < 2 ^ 64) where
  -- one for what is below a condition
  abbrev below : Condition → Condition → ℕ
  below b x = cond {A = ℕ} (is_lt (condition_cmp x b)) 1 0

  -- a lesser condition has a lesser number
  number_less : (a b : Condition) → StandsIn conditions a → condition_cmp a b ≡ Less → number_of conditions a < number_of conditions b
  number_less a b (before, after, e) less =
      let more = λ (x : Condition). one_at_most (is_lt (condition_cmp x a)) (is_lt (condition_cmp x b)) (λ h. ap is_lt (condition_total.trans x a b (is_less (condition_cmp x a) h) less)) in
      let here : below a a ≡ 0 = ap (λ o. cond {A = ℕ} (is_lt o) 1 0) (tied_itself condition_total a) in
      let there : below b a ≡ 1 = ap (λ o. cond {A = ℕ} (is_lt o) 1 0) less in
      omega (
        arith,
        ap (sum_by (below a)) e,
        sum_by-append (below a) before (a ∷ after),
        sum_by-cons (below a) a after,
        ap (sum_by (below b)) e,
        sum_by-append (below b) before (a ∷ after),
        sum_by-cons (below b) a after,
        sum_by-le-sum_by (below a) (below b) before more,
        sum_by-le-sum_by (below a) (below b) after more,
      )

  -- each number fits 64 bits
  number_small : (c : Condition) → number_of conditions c < 2 ^ 64
  number_small c = omega (arith, count_by-le-length (λ other. is_lt (condition_cmp other c)) conditions)

  -- and so another name
  names_apart : (a b : Condition) → StandsIn conditions a → condition_cmp a b ≡ Less → condition_name conditions a ≡ condition_name conditions b → ⊥
  names_apart a b s less e =
      omega (arith, number_less a b s less, decimal_injective (number_of conditions a) (number_of conditions b) (number_small a) (number_small b) (append_cancel_left (codes "a.") _ _ e))

  abbrev define : Condition → Define
  define = condition_define conditions

  -- no two defines have one name
  defines_apart : (xs : List Condition) → ((c : Condition) → StandsIn xs c → StandsIn conditions c) → AreRising condition_cmp xs → IsDistinct (eq_by_cmp define_cmp) (map define xs)
  unfolding IsDistinct
  defines_apart [] among up = tt
  defines_apart (x ∷ xs) among up = (
    images_all (λ d. eq_by_cmp define_cmp (define x) d ≡ false) define xs (λ y s. false_from_ne_true _ (λ e.
        names_apart x y (among x (stands_first x xs)) (first_below condition_cmp condition_total x xs up y s) (same_text _ _ (sym e ∙ sym (texts_ties (define x).name (define y).name))))),
    defines_apart xs (λ c s. among c (stands_later x c xs s)) (rest_rising condition_cmp condition_total x xs up),
  )

  -- where the defines of some conditions stand, there stand as many elements
  within_held : (f : Define → ℕ) (xs : List Condition) (held : List Define) → ((c : Condition) → StandsIn xs c → StandsIn conditions c) → AreRising condition_cmp xs
      → ((c : Condition) → StandsIn xs c → StandsIn held (define c)) → sum_by f (map define xs) ≤ sum_by f held
  within_held f [] held among up each = omega arith
  within_held f (x ∷ xs) held among up each =
      let at = each x (stands_first x xs) in
      let other = λ (c : Condition) (s : StandsIn xs c) (e : define c ≡ define x).
      names_apart x c (among x (stands_first x xs)) (first_below condition_cmp condition_total x xs up c s) (ap (λ (d : Define). d.name) (sym e)) in
      let rest = within_held f xs (at.0 ++ at.1) (λ c s. among c (stands_later x c xs s)) (rest_rising condition_cmp condition_total x xs up) (λ c s.
      left_standing at.0 at.1 (define x) (define c) (subst (λ ds. StandsIn ds (define c)) at.2 (each c (stands_later x c xs s))) (other c s)) in
      omega (
        arith,
        rest,
        ap (sum_by f) at.2,
        sum_by-cons f (define x) (map define xs),
        sum_by-append f at.0 (define x ∷ at.1),
        sum_by-cons f (define x) at.1,
        sum_by-append f at.0 at.1,
      )

  pub within_set : (f : Define → ℕ) (set : List Define) → IsSet define_cmp (IsConditionDefine conditions) set → sum_by f (map define conditions) ≤ sum_by f set
  within_set f set is = within_held f conditions set (λ c s. s) rising (λ c s. is.each (define c) (c, s, refl))

  -- the defines of the conditions, sorted by name, are the set of them
  pub defines_set : (made sorted : List Define) → made ≡ map define conditions → IsPermutation made sorted → IsSorted define_cmp sorted → IsSet define_cmp (IsConditionDefine conditions) sorted
  defines_set made sorted is moved up =
      let made_apart = subst (IsDistinct (eq_by_cmp define_cmp)) (sym is) (defines_apart conditions (λ c s. s) rising) in
      let apart = IsDistinct-IsPermutation (eq_by_cmp define_cmp) (eq_by_cmp_equiv define_total).symm made sorted moved made_apart in
      record {
        rising = λ before after item next e. next_less define_total before after item next (subst (IsSorted define_cmp) e up) (subst (IsDistinct (eq_by_cmp define_cmp)) e apart);
        none_else = λ d s.
            stands_map define conditions d (subst (λ ds. StandsIn ds d) is (standing made d (Contains-permutation sorted made d (IsPermutation-sym made sorted moved) (contained sorted d s))));
        each = λ d h. standing sorted d (Contains-permutation made sorted d moved (contained made d
            (subst (λ ds. StandsIn ds d) (sym is) (subst (StandsIn (map define conditions)) (sym h.2) (map_stands define conditions h.0 h.1)))));
      }

  -- conditions by the names of their defines
  abbrev by_name : Condition → Condition → Ordering
  by_name a b = ordering_then (define_cmp (define a) (define b)) (condition_cmp a b)

  by_name_total : IsTotalOrder by_name
  by_name_total = then_total (on_total define define_total) condition_total

  by_name_exact : (a b : Condition) → by_name a b ≡ Equal → a ≡ b
  by_name_exact a b e = condition_exact a b (both_equal (define_cmp (define a) (define b)) (condition_cmp a b) e).1

  -- of a lesser one the name is less
  name_less : (a b : Condition) → StandsIn conditions a → by_name a b ≡ Less → define_cmp (define a) (define b) ≡ Less
  name_less a b s e =
      elim (define_cmp (define a) (define b)) as (λ o. define_cmp (define a) (define b) ≡ o → ordering_then o (condition_cmp a b) ≡ Less → define_cmp (define a) (define b) ≡ Less) [
        | Less ↦ λ is less. is
        | Equal ↦ λ is less. absurd (names_apart a b s less (slice_cmp-IsAntisymmetric nat_cmp-IsAntisymmetric _ _ is))
        | Greater ↦ λ is less. cc
      ] refl e

  made_rise : (xs : List Condition) → ((c : Condition) → StandsIn xs c → StandsIn conditions c) → AreRising by_name xs → AreRising define_cmp (map define xs)
  made_rise [] among up = none_rising define_cmp
  made_rise (x ∷ xs) among up =
      rising_more define_cmp (define x) (map define xs)
      (λ d s.
      let at = stands_map define xs d s in
      subst (λ e. define_cmp (define x) e ≡ Less) (sym at.2) (name_less x at.0 (among x (stands_first x xs)) (first_below by_name by_name_total x xs up at.0 at.1)))
      (made_rise xs (λ c s. among c (stands_later x c xs s)) (rest_rising by_name by_name_total x xs up))

  -- so there is a set of their defines
  pub defines_exist : (defines : List Define) × IsSet define_cmp (IsConditionDefine conditions) defines
  defines_exist =
      let set = set_of_is by_name by_name_total by_name_exact conditions in
      let xs = set_of by_name conditions in (
        map define xs,
        record {
          rising = made_rise xs set.none_else set.rising;
          none_else = λ d s. let at = stands_map define xs d s in (at.0, set.none_else at.0 at.1, at.2);
          each = λ d h. subst (StandsIn (map define xs)) (sym h.2) (map_stands define xs h.0 (set.each h.0 h.1));
        },
      )
