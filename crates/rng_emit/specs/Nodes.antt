-- How many elements the text of a grammar has.
use Rattle.std.specs.Prelude.{ℕ, zero, ◌+◌, map}
use Rattle.odd_tree.specs.Markup.{Markup, Markups, declaring, element, line, none, more}
use Rattle.rng_emit.specs.Grammar.{define_markup, grammar_markup, pattern_markup}
use Rattle.rng_grammar.specs.declared.grammar.Grammar.{Grammar}

abbrev mutual
  -- the element and those in it
  pub elements_in : Markup → ℕ
  elements_in (element name attributes inside) = elements_among inside + 1
  elements_in (line name attributes text) = 1
  elements_in (declaring name prefixes attributes) = 1

  pub elements_among : Markups → ℕ
  elements_among none = zero
  elements_among (more m rest) = elements_in m + elements_among rest

-- `grammar` included
abbrev pub text_nodes : Grammar → ℕ
text_nodes g = elements_in (grammar_markup (pattern_markup g.start) (map define_markup g.defines))
