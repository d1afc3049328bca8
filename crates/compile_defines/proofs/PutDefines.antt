-- Defines that are put at the end of others under a budget, and what is refused of them.
use Rattle.std.proofs.Common.{◌≡◌, ◌∙◌, ◌<◌, ℕ, ◌+◌, List, [], ◌∷◌, ◌++◌, length, get_or, take, Err, refl, sym, subst, ap, arith}
use Rattle.std.proofs.lemmas.List.{flat_map_more}
use Rattle.std.proofs.lemmas.List.Sums.{sum_by-append, sum_by-cons, sum_by_more_le}
use Rattle.std.proofs.lemmas.Result.{err_from_is_err_and}
use Rattle.std.specs.Prelude.{flat_map, sum_by}
use Rattle.std.specs.Result.{IsErrAnd}
use Rattle.std.specs.declared.result.Result.{Result}
use Rattle.odd_text.specs.Sorted.{IsSet}
use Rattle.odd_text.proofs.InList.{ends}
use Rattle.compile_defines.proofs.Taking.{Refuses, taking_refused}
use Rattle.compile_defines.specs.Budget.{HasTaken}
use Rattle.compile_defines.specs.declared.budget.Budget.{Budget}
use Rattle.compile_defines.specs.declared.budget.MakeRefusal.{MakeRefusal}
use Rattle.compile_defines.specs.declared.budget.MakeRefusal.TheVariants as refusal
use Rattle.compile_defines.specs.Compiled.{define_cmp}
use Rattle.rng_grammar.specs.declared.grammar.Define.{Define}
use Rattle.compile_defines.specs.Elements.{HasTakenSet, define_elements}

-- a sum over lists, one after the other
sum_by-flat_map : {A B : Type 0} (f : B → ℕ) (g : A → List B) (xs : List A) → sum_by f (flat_map g xs) ≡ sum_by (λ x. sum_by f (g x)) xs
sum_by-flat_map f g [] = refl
sum_by-flat_map f g (x ∷ xs) =
    sum_by-append f (g x) (flat_map g xs) ∙ ap (λ n. sum_by f (g x) + n) (sum_by-flat_map f g xs) ∙ sym (sum_by-cons (λ y. sum_by f (g y)) x xs)

-- those of the next item, put after those of the items before it
pub put_more : {X : Type 0} (defines_of : X → List Define) (xs items : List X) (i : ℕ) (x : X) (old made next : List Define) → items ≡ xs → i < length items → x ≡ get_or items i x
    → made ≡ old ++ flat_map defines_of (take i xs) → next ≡ made ++ defines_of x → next ≡ old ++ flat_map defines_of (take (i + 1) xs)
put_more defines_of xs items i x old made next same within is put more =
    let one = ap (take (i + 1)) (sym same) ∙ ends items i x within is ∙ ap (λ ys. take i ys ++ x ∷ []) same in
    more ∙ ap (λ ds. ds ++ defines_of x) put ∙ flat_map_more defines_of old (take i xs) x ∙ ap (λ ys. old ++ flat_map defines_of ys) (sym one)

-- what is refused of the define of an item is refused of those of all
module _ {X : Type 0} (defines_of : X → List Define) (xs items : List X) (i : ℕ) (x : X) (old made : List Define) (same : items ≡ xs) (within : i < length items) (is : x ≡ get_or items i x)
    (put : made ≡ old ++ flat_map defines_of (take i xs)) (d : Define) (one : defines_of x ≡ d ∷ []) (before now after : Budget)
    (taken : before.left + sum_by define_elements old ≡ now.left + sum_by define_elements made) where
  too_many : now.left < define_elements d → before.left < sum_by define_elements (flat_map defines_of xs)
  too_many less =
      let elements = λ (y : X). sum_by define_elements (defines_of y) in
      let inside : i < length xs = subst (λ ys. i < length ys) same within in
      let there = ap elements (is ∙ ap (λ ys. get_or ys i x) same) in
      let here = ap (sum_by define_elements) one ∙ sum_by-cons define_elements d [] in
      let so_far = ap (sum_by define_elements) put ∙ sum_by-append define_elements old (flat_map defines_of (take i xs)) in
      let some = sum_by-flat_map define_elements defines_of (take i xs) in
      let all = sum_by-flat_map define_elements defines_of xs in
      let next = sum_by_more_le elements xs i x inside in
      omega arith

  pub put_refused : {Y : Type 0} (e : MakeRefusal) → Refuses (define_elements d) now e → (r : Result Y MakeRefusal) → IsErrAnd r (λ y. y ≡ e)
      → HasTaken (sum_by define_elements (flat_map defines_of xs)) before after r
  put_refused e refuses r gives = taking_refused (define_elements d) (sum_by define_elements (flat_map defines_of xs)) before now too_many after e refuses r gives

-- what is refused of one define is refused of the set of them all
module _ (Is : Define → Type 0) (part : ℕ) (before now after : Budget)
    (more : (defines : List Define) → IsSet define_cmp Is defines → now.left < part → before.left < sum_by define_elements defines) where
  one_refused : (e : MakeRefusal) → Refuses part now e → HasTakenSet Is before after (Err e)
  one_refused refusal.TooLarge h = λ defines set. more defines set h
  one_refused refusal.NoMemory h = tt

  pub set_refused : (e : MakeRefusal) → Refuses part now e → (r : Result (List Define) MakeRefusal) → IsErrAnd r (λ y. y ≡ e) → HasTakenSet Is before after r
  set_refused e refuses r gives =
      let given = err_from_is_err_and r gives in
      subst (λ s. HasTakenSet Is before after s) (sym (given.1 ∙ ap Err given.2)) (one_refused e refuses)
