-- References of a grammar: each is to a define, and no define reaches itself outside an element (ISO/IEC 19757-2, sections 7.19 and 7.20).
use Rattle.std.specs.Prelude.{◌≡◌, ℕ, List, [], ◌∷◌, map}
use Rattle.odd_text.specs.Standing.{StandsIn}
use Rattle.rng_types.specs.declared.data_type.DataType.{DataType}
use Rattle.rng_types.specs.declared.facet.Facet.{Facet}
use Rattle.rng_grammar.specs.Patterns.{IsDefined}
use Rattle.rng_grammar.specs.declared.grammar.AttrPart.TheVariants as attributes
use Rattle.rng_grammar.specs.declared.grammar.AttrPart.{AttrPart}
use Rattle.rng_grammar.specs.declared.grammar.Body.TheVariants as body
use Rattle.rng_grammar.specs.declared.grammar.Body.{Body}
use Rattle.rng_grammar.specs.declared.grammar.Define.{Define}
use Rattle.rng_grammar.specs.declared.grammar.Expr.TheVariants as expr
use Rattle.rng_grammar.specs.declared.grammar.Expr.{Expr}
use Rattle.rng_grammar.specs.declared.grammar.Grammar.{Grammar}

-- a pattern that stands in another
pub data HasPart (p part : Expr) : Type 0 where
  list : p ≡ expr.List part → HasPart p part
  group : (parts : List Expr) → p ≡ expr.Group parts → StandsIn parts part → HasPart p part
  choice : (parts : List Expr) → p ≡ expr.Choice parts → StandsIn parts part → HasPart p part
  optional : p ≡ expr.Optional part → HasPart p part
  zero_or_more : p ≡ expr.ZeroOrMore part → HasPart p part
  one_or_more : p ≡ expr.OneOrMore part → HasPart p part

-- the pattern itself, or one that stands in it at any depth
pub data StandsWithin (inner : Expr) : Expr → Type 0 where
  itself : StandsWithin inner inner
  inside : {p part : Expr} → HasPart p part → StandsWithin inner part → StandsWithin inner p

-- the pattern has a reference to the name
pub data RefersTo (name : List ℕ) : Expr → Type 0 where
  here : RefersTo name (expr.Ref name)
  inside : {p part : Expr} → HasPart p part → RefersTo name part → RefersTo name p

-- a define that holds no `element` reaches what it refers to, and what that reaches
pub data Reaches (g : Grammar) : List ℕ → List ℕ → Type 0 where
  at_once : {name other : List ℕ} {p : Expr} → IsDefined g name (body.Part p) → RefersTo other p → Reaches g name other
  through : {name between other : List ℕ} → Reaches g name between → Reaches g between other → Reaches g name other

abbrev pub names_of : List Define → List (List ℕ)
names_of ds = map (λ d. d.name) ds

-- the patterns of attributes' values
abbrev pub values_of : AttrPart → List Expr
values_of attributes.AnyAttributes = []
values_of (attributes.Listed rules) = map (λ rule. rule.value) rules

-- the patterns of a define
abbrev pub patterns_of : Body → List Expr
patterns_of (body.Element names attrs content) = content ∷ values_of attrs
patterns_of (body.Part p) = p ∷ []

-- a `data` stands in the grammar
pub record HasData (g : Grammar) : Type 0 where
  pub kind : DataType
  pub facets : List Facet
  pub define : Define
  pub pattern : Expr
  pub among : StandsIn g.defines define
  pub of_define : StandsIn (patterns_of define.body) pattern
  pub within : StandsWithin (expr.Typed kind facets) pattern

pub record IsLinked (g : Grammar) : Type 0 where
  pub start : (name : List ℕ) → RefersTo name g.start → StandsIn (names_of g.defines) name
  pub patterns : (name : List ℕ) (d : Define) (p : Expr) → StandsIn g.defines d → StandsIn (patterns_of d.body) p → RefersTo name p → StandsIn (names_of g.defines) name
  pub apart : (name : List ℕ) → Reaches g name name → ⊥
