-- The pattern of a part that stands several times.
use Rattle.std.specs.Prelude.{ℕ, zero, suc, ◌-◌, List, [], ◌∷◌, ◌++◌, Option, Some, None, replicate}
use Rattle.rng_grammar.specs.declared.grammar.Expr.{Expr}
use Rattle.rng_grammar.specs.declared.grammar.Expr.TheVariants as expr
use Rattle.rng_types.specs.declared.bounds.Bounds.{Bounds}

-- a group of none is `empty`, of one is that one
abbrev pub group_pattern : List Expr → Expr
group_pattern [] = expr.Empty
group_pattern (p ∷ []) = p
group_pattern (p ∷ q ∷ ps) = expr.Group (p ∷ q ∷ ps)

-- a choice of none is `notAllowed`, of one is that one
abbrev pub choice_pattern : List Expr → Expr
choice_pattern [] = expr.NotAllowed
choice_pattern (p ∷ []) = p
choice_pattern (p ∷ q ∷ ps) = expr.Choice (p ∷ q ∷ ps)

-- what may stand after the least number of times
abbrev pub further : Expr → ℕ → Option ℕ → List Expr
further part min None = expr.ZeroOrMore part ∷ []
further part min (Some max) = replicate (max - min) (expr.Optional part)

-- the part so often as it must stand, and then so often as it may; once or more has a pattern of its own
abbrev pub repeated_within : Expr → ℕ → Option ℕ → Expr
repeated_within part (suc zero) None = expr.OneOrMore part
repeated_within part min max = group_pattern (replicate min part ++ further part min max)

abbrev pub repeated : Expr → Bounds → Expr
repeated part bounds = repeated_within part bounds.min bounds.max
