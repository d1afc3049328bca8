-- Which patterns may stand where: in the content of elements, in a value, and in a `list` (ISO/IEC 19757-2, sections 10.3 and 10.2.4, with one addition: a define
-- of `notAllowed` alone may be referred to from each).
use Rattle.std.specs.Prelude.{◌≡◌, ◌⊎◌, ℕ, List, All}
use Rattle.odd_text.specs.Standing.{StandsIn}
use Rattle.rng_types.specs.declared.data_type.DataType.{DataType}
use Rattle.rng_types.specs.declared.facet.Facet.{Facet}
use Rattle.rng_grammar.specs.Patterns.{DefinesElement, IsDefined}
use Rattle.rng_grammar.specs.declared.grammar.AttrPart.TheVariants as attributes
use Rattle.rng_grammar.specs.declared.grammar.AttrPart.{AttrPart}
use Rattle.rng_grammar.specs.declared.grammar.AttrRule.{AttrRule}
use Rattle.rng_grammar.specs.declared.grammar.Body.TheVariants as body
use Rattle.rng_grammar.specs.declared.grammar.Body.{Body}
use Rattle.rng_grammar.specs.declared.grammar.Define.{Define}
use Rattle.rng_grammar.specs.declared.grammar.Expr.TheVariants as expr
use Rattle.rng_grammar.specs.declared.grammar.Expr.{Expr}
use Rattle.rng_grammar.specs.declared.grammar.Grammar.{Grammar}

-- The pattern is of children. A reference leads to an `element` or to another such pattern.
pub data IsOfChildren (g : Grammar) : Expr → Type 0 where
  empty : IsOfChildren g expr.Empty
  not_allowed : IsOfChildren g expr.NotAllowed
  text : IsOfChildren g expr.Text
  element : {name : List ℕ} → DefinesElement g name → IsOfChildren g (expr.Ref name)
  part : {name : List ℕ} (p : Expr) → IsDefined g name (body.Part p) → IsOfChildren g p → IsOfChildren g (expr.Ref name)
  group : {p : Expr} (parts : List Expr) → p ≡ expr.Group parts → ((part : Expr) → StandsIn parts part → IsOfChildren g part) → IsOfChildren g p
  choice : {p : Expr} (parts : List Expr) → p ≡ expr.Choice parts → ((part : Expr) → StandsIn parts part → IsOfChildren g part) → IsOfChildren g p
  optional : {p : Expr} (part : Expr) → p ≡ expr.Optional part → IsOfChildren g part → IsOfChildren g p
  zero_or_more : {p : Expr} (part : Expr) → p ≡ expr.ZeroOrMore part → IsOfChildren g part → IsOfChildren g p
  one_or_more : {p : Expr} (part : Expr) → p ≡ expr.OneOrMore part → IsOfChildren g part → IsOfChildren g p

-- The pattern is of one word.
pub data IsOfWord (g : Grammar) : Expr → Type 0 where
  not_allowed : IsOfWord g expr.NotAllowed
  typed : {k : DataType} {facets : List Facet} → IsOfWord g (expr.Typed k facets)
  same : {text : List ℕ} → IsOfWord g (expr.Same text)
  part : {name : List ℕ} (p : Expr) → IsDefined g name (body.Part p) → IsOfWord g p → IsOfWord g (expr.Ref name)
  choice : {p : Expr} (parts : List Expr) → p ≡ expr.Choice parts → ((part : Expr) → StandsIn parts part → IsOfWord g part) → IsOfWord g p

-- The pattern is of the words of a `list`, in which no `list` stands.
pub data IsOfWords (g : Grammar) : Expr → Type 0 where
  word : {p : Expr} → IsOfWord g p → IsOfWords g p
  empty : IsOfWords g expr.Empty
  group : {p : Expr} (parts : List Expr) → p ≡ expr.Group parts → ((part : Expr) → StandsIn parts part → IsOfWords g part) → IsOfWords g p
  choice : {p : Expr} (parts : List Expr) → p ≡ expr.Choice parts → ((part : Expr) → StandsIn parts part → IsOfWords g part) → IsOfWords g p
  optional : {p : Expr} (part : Expr) → p ≡ expr.Optional part → IsOfWords g part → IsOfWords g p
  zero_or_more : {p : Expr} (part : Expr) → p ≡ expr.ZeroOrMore part → IsOfWords g part → IsOfWords g p
  one_or_more : {p : Expr} (part : Expr) → p ≡ expr.OneOrMore part → IsOfWords g part → IsOfWords g p

-- The pattern is of a value.
pub data IsOfValue (g : Grammar) : Expr → Type 0 where
  word : {p : Expr} → IsOfWord g p → IsOfValue g p
  words : {p : Expr} (part : Expr) → p ≡ expr.List part → IsOfWords g part → IsOfValue g p
  part : {name : List ℕ} (p : Expr) → IsDefined g name (body.Part p) → IsOfValue g p → IsOfValue g (expr.Ref name)
  choice : {p : Expr} (parts : List Expr) → p ≡ expr.Choice parts → ((part : Expr) → StandsIn parts part → IsOfValue g part) → IsOfValue g p

-- content is of children or of a value, and an attribute's pattern is of a value or `text`
abbrev pub IsOfContent : Grammar → Expr → Type 0
IsOfContent g p = IsOfChildren g p ⊎ IsOfValue g p

abbrev pub IsOfRule : Grammar → AttrRule → Type 0
IsOfRule g rule = (rule.value ≡ expr.Text) ⊎ IsOfValue g rule.value

abbrev pub AreOfRules : Grammar → AttrPart → Type 0
AreOfRules g attributes.AnyAttributes = Unit {0}
AreOfRules g (attributes.Listed rules) = All (IsOfRule g) rules

abbrev pub IsOfBody : Grammar → Body → Type 0
IsOfBody g (body.Element names attrs content) = AreOfRules g attrs × IsOfContent g content
IsOfBody g (body.Part p) = IsOfContent g p

-- each pattern is one that may stand there
pub record IsSorted (g : Grammar) : Type 0 where
  pub start : IsOfChildren g g.start
  pub defines : (d : Define) → StandsIn g.defines d → IsOfBody g d.body
