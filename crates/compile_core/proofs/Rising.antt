-- Lists that rise one after another: of entries, and of defines by the first letters of their names.
use Rattle.std.proofs.Common.{◌≡◌, ◌≤◌, ◌<◌, ℕ, List, [], ◌∷◌, ◌++◌, inl, inr, length, refl, ap, subst, sym, arith}
use Rattle.std.proofs.lemmas.Bool.{and_parts}
use Rattle.std.proofs.lemmas.List.{length-append}
use Rattle.std.specs.Cmp.{IsTotalOrder, nat_cmp_is}
use Rattle.std.specs.FinMap.{is_sorted}
use Rattle.std.specs.Ordering.{ordering_then}
use Rattle.std.specs.Prelude.{IsTrue, flat_map}
use Rattle.std.specs.declared.cmp.Ordering.{Ordering}
use Rattle.std.specs.declared.cmp.Ordering.TheVariants.{Less}
use Rattle.compile_defines.proofs.Collected.{collected_stands}
use Rattle.compile_defines.proofs.Standing.{is_less, stands_either}
use Rattle.compile_defines.proofs.NamedDefines.{define_total}
use Rattle.compile_defines.specs.Compiled.{define_cmp}
use Rattle.odd_text.proofs.SetOf.{first_below, rest_rising, rising_more}
use Rattle.odd_text.specs.Sorted.{AreRising}
use Rattle.odd_text.specs.Text.{text_cmp}
use Rattle.odd_text.proofs.InList.{stands_first, stands_later}
use Rattle.odd_text.specs.Standing.{StandsIn}
use Rattle.rng_grammar.specs.declared.grammar.Define.{Define}

module _ {A : Type 0} (order : A → A → Ordering) (total : IsTotalOrder order) where
  -- at most one item rises
  few_rise : (xs : List A) → length xs ≤ 1 → AreRising order xs
  few_rise xs few before after item next e =
      let all = ap length e in
      let parts = length-append before (item ∷ (next ∷ after)) in
      absurd (omega arith)

  -- a list that rises, all of whose items are below those of another
  pub both_rise : (xs ys : List A) → AreRising order xs → AreRising order ys → ((x y : A) → StandsIn xs x → StandsIn ys y → order x y ≡ Less) → AreRising order (xs ++ ys)
  both_rise [] ys r q below = q
  both_rise (x ∷ xs) ys r q below =
      let first : (y : A) → StandsIn (xs ++ ys) y → order x y ≡ Less =
      λ y s. elim (stands_either xs ys y s) [ inl h ↦ first_below order total x xs r y h | inr h ↦ below x y (stands_first x xs) h ] in
      rising_more order x (xs ++ ys) first (both_rise xs ys (rest_rising order total x xs r) q (λ a b s t. below a b (stands_later x a xs s) t))

  -- lists of at most one item, made of items that rise, where what is made of a lesser item is less
  pub made_rise : {X : Type 0} (keyed : X → X → Ordering) → IsTotalOrder keyed → (f : X → List A) → ((x : X) → length (f x) ≤ 1)
      → ((x y : X) (a b : A) → StandsIn (f x) a → StandsIn (f y) b → keyed x y ≡ Less → order a b ≡ Less) → (xs : List X) → AreRising keyed xs → AreRising order (flat_map f xs)
  made_rise keyed by f few less [] r = few_rise [] (omega arith)
  made_rise keyed by f few less (x ∷ xs) r =
      both_rise (f x) (flat_map f xs) (few_rise (f x) (few x)) (made_rise keyed by f few less xs (rest_rising keyed by x xs r))
      (λ a b s t. let p = collected_stands f b xs t in less x p.0 a b s p.2 (first_below keyed by x xs r p.0 p.1))

-- the entries of a map rise by their keys
pub entries_rise : {K V : Type 0} (R : K → K → Ordering) (es : List (K × V)) → IsTrue (is_sorted R es) → AreRising (λ (x y : K × V). R x.0 y.0) es
entries_rise {K} {V} R es up [] after item next e =
    is_less _ (and_parts _ _ (and_parts _ _ (subst (λ (xs : List (K × V)). IsTrue (is_sorted R xs)) e up)).0).0
entries_rise {K} {V} R es up (x ∷ before) after item next e =
    entries_rise R (before ++ item ∷ (next ∷ after)) (and_parts _ _ (subst (λ (xs : List (K × V)). IsTrue (is_sorted R xs)) e up)).1 before after item next refl

-- the first letter of a name
abbrev pub letter : List ℕ → ℕ
letter [] = 0
letter (c ∷ cs) = c

-- a name of a lesser letter is less
lesser_letter : (a b : List ℕ) → letter a < letter b → text_cmp a b ≡ Less
lesser_letter [] [] h = absurd (omega arith)
lesser_letter [] (d ∷ ds) h = refl
lesser_letter (c ∷ cs) [] h = absurd (omega arith)
lesser_letter (c ∷ cs) (d ∷ ds) h = ap (λ r. ordering_then r (text_cmp cs ds)) (sym (nat_cmp_is c d Less h))

-- the first letter of the define's name is at most this, or at least

abbrev pub IsUpTo : ℕ → Define → Type 0
IsUpTo n d = letter d.name ≤ n

abbrev pub IsFrom : ℕ → Define → Type 0
IsFrom n d = n ≤ letter d.name

-- defines that rise, and then such of greater letters
pub letters_rise : (m n : ℕ) (ds es : List Define) → m < n → AreRising define_cmp ds → AreRising define_cmp es → ((d : Define) → StandsIn ds d → IsUpTo m d) → ((d : Define) → StandsIn es d → IsFrom n d)
    → AreRising define_cmp (ds ++ es)
letters_rise m n ds es lt r q low high =
    both_rise define_cmp define_total ds es r q (λ d e s t. let a = low d s in let b = high e t in lesser_letter d.name e.name (omega arith))
