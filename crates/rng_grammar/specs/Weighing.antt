-- What the private functions of `nodes` keep: the places of defines by their names, the arrows between them, and how many nodes a reference is.
use Rattle.std.specs.Prelude.{◌≡◌, ◌↔◌, ℕ, zero, List, [], ◌∷◌, map, length, get_or, slice_get, Option, Some, None, MatchOption}
use Rattle.std.specs.FinMap.{find}
use Rattle.std.specs.List.{AllZip, Contains}
use Rattle.odd_text.specs.Text.{text_cmp}
use Rattle.rng_grammar.specs.Counted.{counted}
use Rattle.rng_grammar.specs.Denoting.{entry_of}
use Rattle.rng_grammar.specs.Linked.{RefersTo}
use Rattle.rng_grammar.specs.Nodes.{nodes, reference_nodes}
use Rattle.rng_grammar.specs.declared.grammar.Body.TheVariants as body
use Rattle.rng_grammar.specs.declared.grammar.Body.{Body}
use Rattle.rng_grammar.specs.declared.grammar.Define.{Define}
use Rattle.rng_grammar.specs.declared.grammar.Expr.TheOpen as shape
use Rattle.rng_grammar.specs.declared.grammar.Expr.{Expr, Expr-F}
use Rattle.rng_grammar.specs.declared.grammar.Grammar.{Grammar}

-- places by the names of defines
abbrev pub Places : Type 0
Places = List (List ℕ × ℕ)

-- the place is that of the first define of the name
pub record IsFirst (defines : List Define) (name : List ℕ) (place : ℕ) : Type 0 where
  pub body : Body
  pub there : slice_get defines place ≡ Some (record { name = name; body = body })
  pub found : find text_cmp name (map entry_of defines) ≡ Some body

-- each name has the place of its first define, and no other name has one
abbrev pub ArePlaces : List Define → Places → Type 0
ArePlaces defines places = (name : List ℕ) → MatchOption (find text_cmp name places) (find text_cmp name (map entry_of defines) ≡ None) (IsFirst defines name)

-- the patterns that stand in one
abbrev pub parts_in : Expr-F Expr → List Expr
parts_in (shape.List part) = part ∷ []
parts_in (shape.Group parts) = parts
parts_in (shape.Choice parts) = parts
parts_in (shape.Optional part) = part ∷ []
parts_in (shape.ZeroOrMore part) = part ∷ []
parts_in (shape.OneOrMore part) = part ∷ []
parts_in other = []

-- the pattern refers to a name of the place
pub record LeadsTo (places : Places) (p : Expr) (place : ℕ) : Type 0 where
  pub name : List ℕ
  pub refers : RefersTo name p
  pub at : find text_cmp name places ≡ Some place

-- so does the define, where it holds no `element`
abbrev pub LeadsOn : Places → Body → ℕ → Type 0
LeadsOn places (body.Element names attrs content) place = ⊥
LeadsOn places (body.Part p) place = LeadsTo places p place

-- the arrows from the define
abbrev pub HasArrows : Places → Body → List ℕ → Type 0
HasArrows places b arrows = (place : ℕ) → Contains arrows place ↔ LeadsOn places b place

-- each define has its own
abbrev pub AreArrows : Places → List Define → List (List ℕ) → Type 0
AreArrows places = AllZip (λ d. HasArrows places d.body)

abbrev weight_at : List ℕ → Option ℕ → ℕ
weight_at weights None = zero
weight_at weights (Some place) = get_or weights place 0

-- how many nodes a reference to the name is
abbrev pub weight_in : Places → List ℕ → List ℕ → ℕ
weight_in places weights name = weight_at weights (find text_cmp name places)

-- how many a reference to a define is
abbrev pub body_weight : (List ℕ → ℕ) → Body → ℕ
body_weight count (body.Element names attrs content) = 1
body_weight count (body.Part p) = nodes count p

-- so many are those to each name
abbrev pub AreWeights : Grammar → Places → List ℕ → Type 0
AreWeights g places weights = (name : List ℕ) → counted (weight_in places weights name) ≡ counted (reference_nodes (length g.defines) g name)
