-- What is refused where a part under a budget is: a part of more elements than are left, or memory.
use Rattle.std.proofs.Common.{◌≡◌, ◌∙◌, ◌<◌, ◌+◌, ℕ, Ok, Err, sym, subst, ap, arith}
use Rattle.std.proofs.lemmas.Result.{err_from_is_err_and}
use Rattle.std.specs.Prelude.{IfOk}
use Rattle.std.specs.Result.{IsErrAnd}
use Rattle.std.specs.declared.result.Result.{Result}
use Rattle.compile_defines.specs.Budget.{HasTaken, IsMadeWithin}
use Rattle.compile_defines.specs.declared.budget.Budget.{Budget}
use Rattle.compile_defines.specs.declared.budget.MakeRefusal.{MakeRefusal}
use Rattle.compile_defines.specs.declared.budget.MakeRefusal.TheVariants as refusal

-- a refusal says that so many elements are not left, or nothing
abbrev pub Refuses : ℕ → Budget → MakeRefusal → Type 0
Refuses elements before refusal.TooLarge = before.left < elements
Refuses elements before refusal.NoMemory = Unit {0}

-- what is refused of a part is refused of the whole, after what was taken before
module _ (part whole : ℕ) (before now : Budget) (more : now.left < part → before.left < whole) where
  whole_refused : (e : MakeRefusal) → Refuses part now e → Refuses whole before e
  whole_refused refusal.TooLarge h = more h
  whole_refused refusal.NoMemory h = tt

  -- whether it is taken
  pub taking_refused : {X : Type 0} (after : Budget) (e : MakeRefusal) → Refuses part now e → (r : Result X MakeRefusal) → IsErrAnd r (λ y. y ≡ e) → HasTaken whole before after r
  taking_refused after e refuses r gives =
      let given = err_from_is_err_and r gives in
      subst (λ s. HasTaken whole before after s) (sym (given.1 ∙ ap Err given.2)) (whole_refused e refuses)

-- or made
pub making_refused : {X : Type 0} (size : X → ℕ) (wanted : X) (part : ℕ) (before now after : Budget) → (now.left < part → before.left < size wanted) → (e : MakeRefusal) → Refuses part now e
    → (r : Result X MakeRefusal) → IsErrAnd r (λ y. y ≡ e) → IsMadeWithin size wanted before after r
making_refused size wanted part before now after more e refuses r gives =
    let given = err_from_is_err_and r gives in
    subst (λ s. IsMadeWithin size wanted before after s) (sym (given.1 ∙ ap Err given.2)) (whole_refused part (size wanted) before now more e refuses)

-- something is made whose elements are taken in two steps
pub made_after : {X : Type 0} (size : X → ℕ) (wanted : X) (some others : ℕ) (before now after : Budget) → before.left ≡ now.left + some → size wanted ≡ some + others
    → (r : Result X MakeRefusal) → IfOk r (λ made. made ≡ wanted) → HasTaken others now after r → IsMadeWithin size wanted before after r
made_after size wanted some others before now after had all (Ok made) is taken = (is, omega arith)
made_after size wanted some others before now after had all (Err refusal.TooLarge) is less = omega arith
made_after size wanted some others before now after had all (Err refusal.NoMemory) is less = tt
