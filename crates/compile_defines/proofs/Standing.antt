-- What stands in a list that was made from another, in the entries of a map, and in a library.
use Rattle.std.proofs.Common.{◌≡◌, ◌⊎◌, Bool, true, false, List, [], ◌∷◌, ◌++◌, filter, Some, cond, inl, inr, refl, sym, ap, subst, ◌∙◌, ℕ, Option}
use Rattle.std.proofs.lemmas.Bool.{and_parts, cond-true, cond_both, false≢true}
use Rattle.std.proofs.lemmas.List.Elements.{All-nil, All-cons, Contains-append_cases, Contains-append_left, Contains-append_right, All-contains, filter_passes}
use Rattle.std.specs.Cmp.{IsTotalOrder, tied_itself}
use Rattle.std.specs.FinMap.{find, is_sorted}
use Rattle.std.specs.FinMap.Entries.{below_all}
use Rattle.std.specs.Ordering.{is_lt, ordering_reverse}
use Rattle.std.specs.Prelude.{All, IsTrue}
use Rattle.std.specs.declared.cmp.Ordering.{Ordering}
use Rattle.std.specs.declared.cmp.Ordering.TheVariants.{Less, Equal, Greater}
use Rattle.odd_library.specs.Odd.{element_key}
use Rattle.odd_library.specs.declared.library.Component.{Component}
use Rattle.odd_library.specs.declared.library.Component.TheVariants as component
use Rattle.odd_library.specs.declared.library.ElementPart.{ElementPart}
use Rattle.odd_library.specs.declared.library.Library.{Library}
use Rattle.odd_library.specs.declared.library.OtherPart.{OtherPart}
use Rattle.odd_meaning.specs.Links.{macro_key}
use Rattle.odd_text.proofs.Entries.{found_contained}
use Rattle.odd_text.specs.Key.{key_cmp}
use Rattle.odd_text.proofs.InList.{contained, first_or_later, nothing_stands, standing, stands_first, stands_later}
use Rattle.odd_text.specs.Standing.{StandsIn}
use Rattle.compile_defines.specs.Contents.{holds_element, holds_macro}

pub is_less : (o : Ordering) → IsTrue (is_lt o) → o ≡ Less
is_less Less h = refl
is_less Equal h = cc
is_less Greater h = cc

-- what stands in a list and a list after it stands in one of them
pub stands_either : {A : Type 0} (xs ys : List A) (x : A) → StandsIn (xs ++ ys) x → StandsIn xs x ⊎ StandsIn ys x
stands_either xs ys x s = elim (Contains-append_cases xs ys x (contained (xs ++ ys) x s)) [ inl h ↦ inl (standing xs x h) | inr h ↦ inr (standing ys x h) ]

pub stands_left : {A : Type 0} (xs ys : List A) (x : A) → StandsIn xs x → StandsIn (xs ++ ys) x
stands_left xs ys x s = standing (xs ++ ys) x (Contains-append_left xs ys x (contained xs x s))

pub stands_right : {A : Type 0} (xs ys : List A) (x : A) → StandsIn ys x → StandsIn (xs ++ ys) x
stands_right xs ys x s = standing (xs ++ ys) x (Contains-append_right xs ys x (contained ys x s))

-- what passes a test is an item
pub filter_stands : {A : Type 0} (test : A → Bool) (xs : List A) (y : A) → StandsIn (filter test xs) y → StandsIn xs y
filter_stands test [] y s = s
filter_stands test (x ∷ xs) y s = by (test x) (filter_stands test xs y) s
  where
    by : (b : Bool) → (StandsIn (filter test xs) y → StandsIn xs y) → StandsIn (cond b (x ∷ filter test xs) (filter test xs)) y → StandsIn (x ∷ xs) y
    by true rest h = elim (first_or_later x y (filter test xs) h) [
      | inl e ↦ subst (StandsIn (x ∷ xs)) (sym e) (stands_first x xs)
      | inr later ↦ stands_later x y xs (rest later)
    ]
    by false rest h = stands_later x y xs (rest h)

-- what holds of each item of a list
pub each_stands : {A : Type 0} (P : A → Type 0) (xs : List A) → ((x : A) → StandsIn xs x → P x) → All P xs
each_stands P [] h = All-nil P
each_stands P (x ∷ xs) h = All-cons P x xs (h x (stands_first x xs)) (each_stands P xs (λ y s. h y (stands_later x y xs s)))

module _ {K V : Type 0} (R : K → K → Ordering) (total : IsTotalOrder R) (exact : (x y : K) → R x y ≡ Equal → x ≡ y) where
  below : (x k : K) (v : V) (es : List (K × V)) → IsTrue (below_all R x es) → StandsIn es (k, v) → R x k ≡ Less
  below x k v [] h s = absurd (nothing_stands (k, v) s)
  below x k v (e ∷ es) h s = elim (first_or_later e (k, v) es s) [
    | inl same ↦ ap (λ (p : K × V). R x p.0) same ∙ is_less _ (and_parts _ _ h).0
    | inr later ↦ below x k v es (and_parts _ _ h).1 later
  ]

  -- an entry is found at its key
  pub found : (k : K) (v : V) (es : List (K × V)) → IsTrue (is_sorted R es) → StandsIn es (k, v) → find R k es ≡ Some v
  found k v [] h s = absurd (nothing_stands (k, v) s)
  found k v (e ∷ es) h s = elim (first_or_later e (k, v) es s) [
    | inl same ↦ rw (ap (λ (p : K × V). R k p.0) (sym same) ∙ tied_itself total k) (ap (λ (p : K × V). Some p.1) (sym same))
    | inr later ↦ rw (total.antisymm k e.0 ∙ ap ordering_reverse (below e.0 k v es (and_parts _ _ h).0 later)) (found k v es (and_parts _ _ h).1 later)
  ]

  -- and what is found at a key is the entry there
  pub held_stands : (k : K) (v : V) (es : List (K × V)) → find R k es ≡ Some v → StandsIn es (k, v)
  held_stands k v es e = standing es (k, v) (found_contained R total exact k v es e)

-- it passes
pub filter_passed : {A : Type 0} (test : A → Bool) (xs : List A) (y : A) → StandsIn (filter test xs) y → test y ≡ true
filter_passed test xs y s = All-contains (λ x. test x ≡ true) (filter test xs) y (filter_passes test xs) (contained (filter test xs) y s)

-- and an item that passes stands there
pub stands_filter : {A : Type 0} (test : A → Bool) (xs : List A) (y : A) → StandsIn xs y → test y ≡ true → StandsIn (filter test xs) y
stands_filter test [] y s h = s
stands_filter test (x ∷ xs) y s h =
    let rest = filter test xs in
    elim (first_or_later x y xs s) [
      | inl e ↦
          subst (λ ys. StandsIn ys y) (sym (cond-true (test x) (x ∷ rest) rest (ap test (sym e) ∙ h))) (subst (λ z. StandsIn (z ∷ rest) y) e (stands_first y rest))
      | inr later ↦
          let kept = stands_filter test xs y later h in
          cond_both (test x) (x ∷ rest) rest (λ ys. StandsIn ys y) (λ t. stands_later x y rest kept) (λ t. kept)
    ]

-- the element is found at its key, and the macro
abbrev pub IsElementAt : Library → List ℕ → ElementPart → Type 0
IsElementAt library ident part = find key_cmp (element_key ident) library.parts ≡ Some (component.Element part)

abbrev pub IsMacroAt : Library → List ℕ → OtherPart → Type 0
IsMacroAt library ident part = find key_cmp (macro_key ident) library.parts ≡ Some (component.Macro part)

-- an element is
abbrev pub HoldsElementAt : Library → List ℕ → Type 0
HoldsElementAt library ident = (part : ElementPart) × IsElementAt library ident part

module _ (library : Library) (ident : List ℕ) where
  -- what is found is held
  pub element_held : (part : ElementPart) → IsElementAt library ident part → holds_element library ident ≡ true
  element_held part e = rw e refl

  pub macro_held : (part : OtherPart) → IsMacroAt library ident part → holds_macro library ident ≡ true
  macro_held part e = rw e refl

  -- and what is held is found
  pub element_found : holds_element library ident ≡ true → HoldsElementAt library ident
  element_found holds = by (find key_cmp (element_key ident) library.parts) refl
    where
      by : (at : Option Component) → find key_cmp (element_key ident) library.parts ≡ at → (part : ElementPart) × IsElementAt library ident part
      by (Some (component.Element part)) e = (part, e)
      by at e = let none : holds_element library ident ≡ false = rw e refl in absurd (false≢true (sym none ∙ holds))

  pub macro_found : holds_macro library ident ≡ true → (part : OtherPart) × IsMacroAt library ident part
  macro_found holds = by (find key_cmp (macro_key ident) library.parts) refl
    where
      by : (at : Option Component) → find key_cmp (macro_key ident) library.parts ≡ at → (part : OtherPart) × IsMacroAt library ident part
      by (Some (component.Macro part)) e = (part, e)
      by at e = let none : holds_macro library ident ≡ false = rw e refl in absurd (false≢true (sym none ∙ holds))
