-- What a pattern that takes a word, or the text of a value, by itself tells.
use Rattle.std.proofs.Common.{◌≡◌, ℕ, List, [], ◌∷◌, refl, sym, ap, subst, ◌∙◌}
use Rattle.std.specs.Str.{chars}
use Rattle.odd_text.specs.Standing.{StandsIn}
use Rattle.rng_types.specs.Words.{words_of}
use Rattle.rng_types.specs.declared.data_type.DataType.{DataType}
use Rattle.rng_types.specs.declared.facet.Facet.{Facet}
use Rattle.rng_values.specs.Facets.{Meets}
use Rattle.rng_values.specs.Lexical.{Fits}
use Rattle.rng_values.specs.Treated.{collapsed, treated}
use Rattle.rng_grammar.proofs.OnePattern.{list_shown}
use Rattle.rng_grammar.specs.Patterns as patterns
use Rattle.rng_grammar.specs.Patterns.{IsMatchedBy, TakesValue, TakesWord}
use Rattle.rng_grammar.specs.declared.grammar.Expr as E
use Rattle.rng_grammar.specs.declared.grammar.Expr.{Expr, Expr-F, out-Expr}
use Rattle.rng_grammar.specs.declared.grammar.Expr.TheOpen as shape
use Rattle.rng_grammar.specs.declared.grammar.Expr.TheVariants as expr
use Rattle.rng_grammar.specs.declared.grammar.Grammar.{Grammar}

pub typed_shown : (k : DataType) (facets : List Facet) → out-Expr (expr.Typed k facets) ≡ shape.Typed k facets
typed_shown k facets = search E.the_lemmas

pub same_shown : (text : List ℕ) → out-Expr (expr.Same text) ≡ shape.Same text
same_shown text = search E.the_lemmas

-- the characters are of the datatype and meet its facets
abbrev pub IsTyped : DataType → List Facet → List ℕ → Type 0
IsTyped k facets cs = Fits k cs × ((f : Facet) → StandsIn facets f → Meets f (treated k cs))

-- the one word that a pattern takes, by the kind of the pattern
abbrev pub WordTold : Expr-F Expr → List (List ℕ) → Type 0
WordTold (shape.Typed k facets) words = (cs : List ℕ) × (words ≡ cs ∷ []) × IsTyped k facets cs
WordTold (shape.Same text) words = (cs : List ℕ) × (words ≡ cs ∷ []) × (collapsed (chars text) ≡ collapsed cs)
WordTold other words = ⊥

pub word_told : (p : Expr) (q : Expr-F Expr) (words : List (List ℕ)) → out-Expr p ≡ q → TakesWord p words → WordTold q words
word_told p q words e (patterns.typed {k = k} {facets = facets} {cs = cs} f m) = subst (λ x. WordTold x (cs ∷ [])) (sym (typed_shown k facets) ∙ e) (cs, refl, (f, m))
word_told p q words e (patterns.same {text = text} {cs = cs} s) = subst (λ x. WordTold x (cs ∷ [])) (sym (same_shown text) ∙ e) (cs, refl, s)

-- the text that it takes
abbrev pub ValueTold : Grammar → Expr-F Expr → List (List ℕ) → Type 0
ValueTold g (shape.Typed k facets) texts = WordTold (shape.Typed k facets) texts
ValueTold g (shape.Same text) texts = WordTold (shape.Same text) texts
ValueTold g (shape.List part) texts = (cs : List ℕ) × (texts ≡ cs ∷ []) × IsMatchedBy g TakesWord part (words_of cs)
ValueTold g other texts = ⊥

-- what takes a word takes it as a text
as_value : (g : Grammar) (q : Expr-F Expr) (texts : List (List ℕ)) → WordTold q texts → ValueTold g q texts
as_value g (shape.Typed k facets) texts x = x
as_value g (shape.Same text) texts x = x
as_value g shape.Empty texts x = absurd x
as_value g shape.NotAllowed texts x = absurd x
as_value g shape.Text texts x = absurd x
as_value g (shape.List part) texts x = absurd x
as_value g (shape.Ref name) texts x = absurd x
as_value g (shape.Group parts) texts x = absurd x
as_value g (shape.Choice parts) texts x = absurd x
as_value g (shape.Optional part) texts x = absurd x
as_value g (shape.ZeroOrMore part) texts x = absurd x
as_value g (shape.OneOrMore part) texts x = absurd x

pub value_told : (g : Grammar) (p : Expr) (q : Expr-F Expr) (texts : List (List ℕ)) → out-Expr p ≡ q → TakesValue g p texts → ValueTold g q texts
value_told g p q texts e (patterns.whole w) = as_value g q texts (word_told p q texts e w)
value_told g p q texts e (patterns.words {part = part} {cs = cs} is m) = subst (λ x. ValueTold g x (cs ∷ [])) (sym (ap out-Expr is ∙ list_shown part) ∙ e) (cs, refl, m)
