-- Which grammars a text can say: those that some bytes denote, where each list of patterns has two parts or more.
use Rattle.std.specs.Prelude.{◌≤◌, ℕ, List, length}
use Rattle.odd_text.specs.Standing.{StandsIn}
use Rattle.rng_grammar.specs.Denoting.{Denotes}
use Rattle.rng_grammar.specs.Linked.{StandsWithin, patterns_of}
use Rattle.rng_grammar.specs.declared.grammar.Define.{Define}
use Rattle.rng_grammar.specs.declared.grammar.Expr.TheVariants as expr
use Rattle.rng_grammar.specs.declared.grammar.Expr.{Expr}
use Rattle.rng_grammar.specs.declared.grammar.Grammar.{Grammar}

-- each list in the pattern has two parts or more
pub record HasLongLists (p : Expr) : Type 0 where
  pub groups : (parts : List Expr) → StandsWithin (expr.Group parts) p → 2 ≤ length parts
  pub choices : (parts : List Expr) → StandsWithin (expr.Choice parts) p → 2 ≤ length parts

pub record IsPlain (g : Grammar) : Type 0 where
  pub bytes : List ℕ
  pub denoted : Denotes bytes g
  pub start : HasLongLists g.start
  pub defines : (d : Define) (p : Expr) → StandsIn g.defines d → StandsIn (patterns_of d.body) p → HasLongLists p
