-- How many nodes a grammar has after linking, when each reference to a define that holds no `element` stands for what that define has.
use Rattle.std.specs.Prelude.{ℕ, zero, suc, ◌+◌, List, map, length, sum, sum_by, Option, Some, None}
use Rattle.std.specs.FinMap.{find}
use Rattle.odd_text.specs.Text.{text_cmp}
use Rattle.rng_grammar.specs.Denoting.{entry_of}
use Rattle.rng_grammar.specs.declared.grammar.AttrPart.TheVariants as attributes
use Rattle.rng_grammar.specs.declared.grammar.AttrPart.{AttrPart}
use Rattle.rng_grammar.specs.declared.grammar.Body.TheVariants as body
use Rattle.rng_grammar.specs.declared.grammar.Body.{Body}
use Rattle.rng_grammar.specs.declared.grammar.Expr.TheOpen.{Empty, NotAllowed, Text, Typed, Same, List as ListOf, Ref, Group, Choice, Optional, ZeroOrMore, OneOrMore}
use Rattle.rng_grammar.specs.declared.grammar.Expr.{Expr, Expr-F, fold-Expr}
use Rattle.rng_grammar.specs.declared.grammar.Grammar.{Grammar}

abbrev nodes_step : (List ℕ → ℕ) → Expr-F ℕ → ℕ
nodes_step counted Empty = 1
nodes_step counted NotAllowed = 1
nodes_step counted Text = 1
nodes_step counted (Typed kind facets) = 1
nodes_step counted (Same text) = 1
nodes_step counted (ListOf part) = part + 1
nodes_step counted (Ref name) = counted name
nodes_step counted (Group parts) = sum parts + 1
nodes_step counted (Choice parts) = sum parts + 1
nodes_step counted (Optional part) = part + 1
nodes_step counted (ZeroOrMore part) = part + 1
nodes_step counted (OneOrMore part) = part + 1

-- a pattern and its parts, where a reference to a name has so many nodes
abbrev pub nodes : (List ℕ → ℕ) → Expr → ℕ
nodes counted = fold-Expr ℕ (nodes_step counted)

abbrev body_nodes : (Expr → ℕ) → Option Body → ℕ
body_nodes count None = zero
body_nodes count (Some (body.Element names attrs content)) = 1
body_nodes count (Some (body.Part p)) = count p

-- A reference to a define that holds an `element` is one node, and to another what that define has. Where the grammar is linked no define comes
-- back to itself, so no more steps are needed than there are defines.
abbrev pub reference_nodes : ℕ → Grammar → List ℕ → ℕ
reference_nodes zero g name = zero
reference_nodes (suc steps) g name = body_nodes (nodes (reference_nodes steps g)) (find text_cmp name (map entry_of g.defines))

abbrev attribute_nodes : (List ℕ → ℕ) → AttrPart → ℕ
attribute_nodes counted attributes.AnyAttributes = zero
attribute_nodes counted (attributes.Listed rules) = sum_by (λ rule. nodes counted rule.value) rules

-- an `element` has the nodes of its attributes' values and of its content
abbrev pub element_nodes : (List ℕ → ℕ) → Body → ℕ
element_nodes counted (body.Element names attrs content) = attribute_nodes counted attrs + nodes counted content
element_nodes counted (body.Part p) = zero

abbrev nodes_by : (List ℕ → ℕ) → Grammar → ℕ
nodes_by counted g = nodes counted g.start + sum_by (λ d. element_nodes counted d.body) g.defines

-- the nodes of the start and of all defines that hold an `element`
abbrev pub linked_nodes : Grammar → ℕ
linked_nodes g = nodes_by (reference_nodes (length g.defines) g) g
