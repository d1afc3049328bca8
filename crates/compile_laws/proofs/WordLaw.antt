-- A pattern of one word matches the words of a list where there is one and it allows that as a value.
use Rattle.std.proofs.Common.{◌≡◌, ◌↔◌, ◌⊎◌, ℕ, List, [], ◌∷◌, inl, inr, ⊎_elim, refl, sym, ap, subst, ◌∙◌}
use Rattle.rng_grammar.proofs.OnePattern.{ToldBy, choice_shown, ref_shown, told_by}
use Rattle.rng_grammar.proofs.SortLaws.{DefinesOnce}
use Rattle.rng_grammar.proofs.Values.{ValueTold, same_shown, typed_shown, value_told}
use Rattle.rng_grammar.specs.Patterns as patterns
use Rattle.rng_grammar.specs.Patterns.{IsAllowed, IsMatchedBy, TakesValue, TakesWord}
use Rattle.rng_grammar.specs.Sorts as sorts
use Rattle.rng_grammar.specs.Sorts.{IsOfWord}
use Rattle.rng_grammar.specs.declared.grammar.Body.TheVariants as body
use Rattle.rng_grammar.specs.declared.grammar.Expr as E
use Rattle.rng_grammar.specs.declared.grammar.Expr.{Expr, Expr-F, out-Expr}
use Rattle.rng_grammar.specs.declared.grammar.Expr.TheOpen as shape
use Rattle.rng_grammar.specs.declared.grammar.Expr.TheVariants as expr
use Rattle.rng_grammar.specs.declared.grammar.Grammar.{Grammar}
use Rattle.compile_laws.proofs.Leaves.{IsLeaf, parts_told, value_leaves, word_leaves}

-- one word that the pattern allows
abbrev pub IsOneWord : Grammar → Expr → List (List ℕ) → Type 0
IsOneWord g p words = (word : List ℕ) × (words ≡ word ∷ []) × IsAllowed g p word

pub not_allowed_shown : out-Expr expr.NotAllowed ≡ shape.NotAllowed
not_allowed_shown = search E.the_lemmas

module _ (g : Grammar) (once : DefinesOnce g) where
  -- what takes a word by itself takes it as a value, and a value of one word is taken so
  by_word : (p : Expr) (words : List (List ℕ)) → TakesWord p words → IsOneWord g p words
  by_word p words (patterns.typed {cs = cs} f m) = (cs, refl, patterns.leaf (patterns.whole (patterns.typed f m)))
  by_word p words (patterns.same {cs = cs} s) = (cs, refl, patterns.leaf (patterns.whole (patterns.same s)))

  -- a datatype and a value
  typed_word : (p : Expr) (q : Expr-F Expr) (words : List (List ℕ)) → out-Expr p ≡ q → IsLeaf q → (ToldBy g TakesWord q words → ⊥) → IsMatchedBy g TakesWord p words → IsOneWord g p words
  typed_word p q words e leaf none m = ⊎_elim (λ t. by_word p words t) (λ x. absurd (none x)) (told_by g TakesWord p q words e m)

  -- what an allowed word tells
  split : (p : Expr) (q : Expr-F Expr) (word : List ℕ) → out-Expr p ≡ q → IsAllowed g p word → ValueTold g q (word ∷ []) ⊎ ToldBy g (TakesValue g) q (word ∷ [])
  split p q word e m = ⊎_elim (λ t. inl (value_told g p q (word ∷ []) e t)) (λ x. inr x) (told_by g (TakesValue g) p q (word ∷ []) e m)

  mutual
    -- words that the pattern matches are one that it allows
    one_word : (p : Expr) → IsOfWord g p → (words : List (List ℕ)) → IsMatchedBy g TakesWord p words → IsOneWord g p words
    one_word p sorts.not_allowed words m = absurd (parts_told g TakesWord word_leaves p shape.NotAllowed words not_allowed_shown (λ x. x) m)
    one_word p (sorts.typed {k = k} {facets = facets}) words m = typed_word p (shape.Typed k facets) words (typed_shown k facets) tt (λ x. x) m
    one_word p (sorts.same {text = text}) words m = typed_word p (shape.Same text) words (same_shown text) tt (λ x. x) m
    one_word p (sorts.part {name = name} inner d w) words m =
        ⊎_elim (λ t. by_word p words t)
        (λ x.
        let two : body.Part inner ≡ body.Part x.0 = once name _ _ d x.1 in
        let same : x.0 ≡ inner = cc in
        let o = one_word inner w words (subst (λ y. IsMatchedBy g TakesWord y words) same x.2) in
        (o.0, o.1, patterns.part d o.2))
        (told_by g TakesWord p (shape.Ref name) words (ref_shown name) m)
    one_word p (sorts.choice parts e each) words m =
        let x = parts_told g TakesWord word_leaves p (shape.Choice parts) words (ap out-Expr e ∙ choice_shown parts) (λ y. y) m in
        let o = one_word x.0 (each x.0 x.1) words x.2 in
        (o.0, o.1, patterns.choice e x.1 o.2)

    -- and one that it allows it matches
    word_matched : (p : Expr) → IsOfWord g p → (word : List ℕ) → IsAllowed g p word → IsMatchedBy g TakesWord p (word ∷ [])
    word_matched p sorts.not_allowed word m = absurd (parts_told g (TakesValue g) (value_leaves g) p shape.NotAllowed (word ∷ []) not_allowed_shown (λ x. x) m)
    word_matched p (sorts.typed {k = k} {facets = facets}) word m =
        ⊎_elim (λ t. let one = t.1 in let same : t.0 ≡ word = cc in subst (λ w. IsMatchedBy g TakesWord (expr.Typed k facets) (w ∷ [])) same (patterns.leaf (patterns.typed t.2.0 t.2.1)))
        (λ x. absurd x) (split p (shape.Typed k facets) word (typed_shown k facets) m)
    word_matched p (sorts.same {text = text}) word m =
        ⊎_elim (λ t. let one = t.1 in let same : t.0 ≡ word = cc in subst (λ w. IsMatchedBy g TakesWord (expr.Same text) (w ∷ [])) same (patterns.leaf (patterns.same t.2)))
        (λ x. absurd x) (split p (shape.Same text) word (same_shown text) m)
    word_matched p (sorts.part {name = name} inner d w) word m =
        ⊎_elim (λ t. absurd t)
        (λ x.
        let two : body.Part inner ≡ body.Part x.0 = once name _ _ d x.1 in
        let same : x.0 ≡ inner = cc in
        patterns.part d (word_matched inner w word (subst (λ y. IsMatchedBy g (TakesValue g) y (word ∷ [])) same x.2)))
        (split p (shape.Ref name) word (ref_shown name) m)
    word_matched p (sorts.choice parts e each) word m =
        let x = parts_told g (TakesValue g) (value_leaves g) p (shape.Choice parts) (word ∷ []) (ap out-Expr e ∙ choice_shown parts) (λ y. y) m in
        patterns.choice e x.1 (word_matched x.0 (each x.0 x.1) word x.2)

  pub word_law : (p : Expr) → IsOfWord g p → (words : List (List ℕ)) → IsMatchedBy g TakesWord p words ↔ IsOneWord g p words
  word_law p w words = (one_word p w words, λ o. subst (IsMatchedBy g TakesWord p) (sym o.1) (word_matched p w o.0 o.2))
