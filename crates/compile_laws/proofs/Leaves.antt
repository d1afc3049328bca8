-- What takes items by itself: no pattern that is made of others.
use Rattle.std.proofs.Common.{◌≡◌, ℕ, List, ⊎_elim, ap, subst, sym, ◌∙◌}
use Rattle.odd_tree.specs.Significant.{Marking}
use Rattle.rng_grammar.proofs.OnePattern.{ToldBy, list_shown, ref_shown, text_shown, told_by}
use Rattle.rng_grammar.proofs.Values.{same_shown, typed_shown}
use Rattle.rng_grammar.specs.Patterns as patterns
use Rattle.rng_grammar.specs.Patterns.{IsMatchedBy, TakesChildren, TakesValue, TakesWord}
use Rattle.rng_grammar.specs.declared.grammar.Expr.{Expr, Expr-F, out-Expr}
use Rattle.rng_grammar.specs.declared.grammar.Expr.TheOpen as shape
use Rattle.rng_grammar.specs.declared.grammar.Grammar.{Grammar}

abbrev pub IsLeaf : Expr-F Expr → Type 0
IsLeaf shape.Text = Unit {0}
IsLeaf (shape.Typed kind facets) = Unit {0}
IsLeaf (shape.Same text) = Unit {0}
IsLeaf (shape.List part) = Unit {0}
IsLeaf (shape.Ref name) = Unit {0}
IsLeaf other = ⊥

abbrev pub TakesLeaves : {S : Type 0} → (Expr → List S → Type 0) → Type 0
TakesLeaves {S = S} Takes = (p : Expr) (q : Expr-F Expr) (items : List S) → out-Expr p ≡ q → Takes p items → IsLeaf q

-- so a match of such a pattern tells of its parts
pub parts_told : (g : Grammar) {S : Type 0} (Takes : Expr → List S → Type 0) → TakesLeaves Takes → (p : Expr) (q : Expr-F Expr) (items : List S) → out-Expr p ≡ q → (IsLeaf q → ⊥)
    → IsMatchedBy g Takes p items → ToldBy g Takes q items
parts_told g Takes leaves p q items e made m = ⊎_elim (λ t. absurd (made (leaves p q items e t))) (λ x. x) (told_by g Takes p q items e m)

-- children are taken so, words, and values
pub children_leaves : (g : Grammar) (counts : Marking (List ℕ)) → TakesLeaves (TakesChildren g counts)
children_leaves g counts p q children e (patterns.text none) = subst IsLeaf (sym text_shown ∙ e) tt
children_leaves g counts p q children e (patterns.element {name = name} d is m) = subst IsLeaf (sym (ref_shown name) ∙ e) tt

pub word_leaves : TakesLeaves TakesWord
word_leaves p q words e (patterns.typed {k = k} {facets = facets} f m) = subst IsLeaf (sym (typed_shown k facets) ∙ e) tt
word_leaves p q words e (patterns.same {text = text} s) = subst IsLeaf (sym (same_shown text) ∙ e) tt

pub value_leaves : (g : Grammar) → TakesLeaves (TakesValue g)
value_leaves g p q texts e (patterns.whole w) = word_leaves p q texts e w
value_leaves g p q texts e (patterns.words {part = part} is m) = subst IsLeaf (sym (ap out-Expr is ∙ list_shown part) ∙ e) tt
