-- What is made under a budget of elements.
use Rattle.std.specs.Prelude.{◌≡◌, ℕ, zero, suc, ◌+◌, ◌<◌, List, Result, Ok, Err, length, sum_by}
use Rattle.rng_emit.specs.Grammar.{pattern_markup}
use Rattle.rng_emit.specs.Nodes.{elements_in}
use Rattle.rng_grammar.specs.declared.grammar.Expr.{Expr}
use Rattle.compile_defines.specs.declared.budget.Budget.{Budget}
use Rattle.compile_defines.specs.declared.budget.MakeRefusal.{MakeRefusal}
use Rattle.compile_defines.specs.declared.budget.MakeRefusal.TheVariants as refusal

-- how many elements of the schema's text a pattern is
abbrev pub pattern_elements : Expr → ℕ
pattern_elements p = elements_in (pattern_markup p)

-- what is made under a budget: the thing itself, and its elements are taken; or it has more elements than were left
abbrev pub IsMadeWithin : {X : Type 0} → (X → ℕ) → X → Budget → Budget → Result X MakeRefusal → Type 0
IsMadeWithin size wanted before after (Ok made) = (made ≡ wanted) × (before.left ≡ after.left + size wanted)
IsMadeWithin size wanted before after (Err refusal.TooLarge) = before.left < size wanted
IsMadeWithin size wanted before after (Err refusal.NoMemory) = Unit {0}

-- so many elements are taken, whatever else is given; or they are more than were left
abbrev pub HasTaken : {X : Type 0} → ℕ → Budget → Budget → Result X MakeRefusal → Type 0
HasTaken elements before after (Ok given) = before.left ≡ after.left + elements
HasTaken elements before after (Err refusal.TooLarge) = before.left < elements
HasTaken elements before after (Err refusal.NoMemory) = Unit {0}

-- the element of a group or a choice of so many parts: a single part stands alone
abbrev pub joint_elements : ℕ → ℕ
joint_elements zero = 1
joint_elements (suc zero) = 0
joint_elements (suc (suc parts)) = 1

-- the elements of a group or a choice of some patterns
abbrev pub joined_elements : List Expr → ℕ
joined_elements ps = sum_by pattern_elements ps + joint_elements (length ps)
