-- A pattern of children allows no value, and one of a value matches no children.
use Rattle.std.proofs.Common.{◌≡◌, ℕ, suc, List, [], ◌∷◌, ◌++◌, refl, sym, ap, subst, ◌∙◌, ⊎_elim}
use Rattle.odd_text.specs.Standing.{StandsIn}
use Rattle.odd_tree.specs.Significant.{Marking}
use Rattle.odd_tree.specs.declared.tree.Node.{Node}
use Rattle.odd_text.proofs.InList.{stands_first, stands_later}
use Rattle.rng_grammar.proofs.OnePattern.{ToldBy, choice_shown, empty_shown, group_shown, list_shown, one_or_more_shown, optional_shown, ref_shown, text_shown, told, told_by, zero_or_more_shown}
use Rattle.rng_grammar.proofs.Values.{ValueTold, same_shown, typed_shown, value_told}
use Rattle.rng_types.specs.declared.data_type.DataType.{DataType}
use Rattle.rng_types.specs.declared.facet.Facet.{Facet}
use Rattle.rng_grammar.specs.Linked as linked
use Rattle.rng_grammar.specs.Linked.{HasPart, StandsWithin}
use Rattle.rng_grammar.specs.Patterns as patterns
use Rattle.rng_grammar.specs.Patterns.{AreMatchedBy, IsAllowed, IsDefined, IsMatched, IsMatchedBy, IsRepeatedBy, TakesValue}
use Rattle.rng_grammar.specs.Sorts as sorts
use Rattle.rng_grammar.specs.Sorts.{IsOfChildren, IsOfValue, IsOfWord}
use Rattle.rng_grammar.specs.declared.grammar.Body.{Body}
use Rattle.rng_grammar.specs.declared.grammar.Body.TheVariants as body
use Rattle.rng_grammar.specs.declared.grammar.Expr as E
use Rattle.rng_grammar.specs.declared.grammar.Expr.{Expr, Expr-F, out-Expr}
use Rattle.rng_grammar.specs.declared.grammar.Expr.TheOpen as shape
use Rattle.rng_grammar.specs.declared.grammar.Expr.TheVariants as expr
use Rattle.rng_grammar.specs.declared.grammar.Grammar.{Grammar}

-- each name is defined once
abbrev pub DefinesOnce : Grammar → Type 0
DefinesOnce g = (name : List ℕ) (b c : Body) → IsDefined g name b → IsDefined g name c → b ≡ c

pub not_allowed_shown : out-Expr expr.NotAllowed ≡ shape.NotAllowed
not_allowed_shown = search E.the_lemmas

-- what a pattern of children holds
module _ (g : Grammar) where
  abbrev OfChildren : Expr-F Expr → Type 0
  OfChildren (shape.Typed kind facets) = ⊥
  OfChildren (shape.Same text) = ⊥
  OfChildren (shape.List part) = ⊥
  OfChildren (shape.Group parts) = (part : Expr) → StandsIn parts part → IsOfChildren g part
  OfChildren (shape.Choice parts) = (part : Expr) → StandsIn parts part → IsOfChildren g part
  OfChildren (shape.Optional part) = IsOfChildren g part
  OfChildren (shape.ZeroOrMore part) = IsOfChildren g part
  OfChildren (shape.OneOrMore part) = IsOfChildren g part
  OfChildren other = Unit {0}

  held : (p : Expr) (q : Expr-F Expr) → out-Expr p ≡ q → IsOfChildren g p → OfChildren q
  held p q e sorts.empty = subst OfChildren (sym empty_shown ∙ e) tt
  held p q e sorts.not_allowed = subst OfChildren (sym not_allowed_shown ∙ e) tt
  held p q e sorts.text = subst OfChildren (sym text_shown ∙ e) tt
  held p q e (sorts.element {name = name} d) = subst OfChildren (sym (ref_shown name) ∙ e) tt
  held p q e (sorts.part {name = name} inner d c) = subst OfChildren (sym (ref_shown name) ∙ e) tt
  held p q e (sorts.group parts is each) = subst OfChildren (sym (ap out-Expr is ∙ group_shown parts) ∙ e) each
  held p q e (sorts.choice parts is each) = subst OfChildren (sym (ap out-Expr is ∙ choice_shown parts) ∙ e) each
  held p q e (sorts.optional part is c) = subst OfChildren (sym (ap out-Expr is ∙ optional_shown part) ∙ e) c
  held p q e (sorts.zero_or_more part is c) = subst OfChildren (sym (ap out-Expr is ∙ zero_or_more_shown part) ∙ e) c
  held p q e (sorts.one_or_more part is c) = subst OfChildren (sym (ap out-Expr is ∙ one_or_more_shown part) ∙ e) c

  -- so each part of one is one
  part_held : {p part : Expr} → HasPart p part → IsOfChildren g p → IsOfChildren g part
  part_held {part = part} (linked.list e) c = absurd (held _ (shape.List part) (ap out-Expr e ∙ list_shown part) c)
  part_held {part = part} (linked.group parts e s) c = held _ (shape.Group parts) (ap out-Expr e ∙ group_shown parts) c part s
  part_held {part = part} (linked.choice parts e s) c = held _ (shape.Choice parts) (ap out-Expr e ∙ choice_shown parts) c part s
  part_held {part = part} (linked.optional e) c = held _ (shape.Optional part) (ap out-Expr e ∙ optional_shown part) c
  part_held {part = part} (linked.zero_or_more e) c = held _ (shape.ZeroOrMore part) (ap out-Expr e ∙ zero_or_more_shown part) c
  part_held {part = part} (linked.one_or_more e) c = held _ (shape.OneOrMore part) (ap out-Expr e ∙ one_or_more_shown part) c

  -- and no `data` stands in it
  pub no_data_within : {k : DataType} {facets : List Facet} {p : Expr} → StandsWithin (expr.Typed k facets) p → IsOfChildren g p → ⊥
  no_data_within {k = k} {facets = facets} linked.itself c = held _ (shape.Typed k facets) (typed_shown k facets) c
  no_data_within (linked.inside h w) c = no_data_within w (part_held h c)

-- two lists that are empty are together
both_empty : {S : Type 0} (items left right : List S) → items ≡ left ++ right → left ≡ [] → right ≡ [] → items ≡ []
both_empty items left right e f h = e ∙ (λ i. f i ++ h i)

module _ (g : Grammar) (once : DefinesOnce g) where
  -- a pattern that takes no text by itself tells by its parts
  by_parts : (p : Expr) (q : Expr-F Expr) (texts : List (List ℕ)) → out-Expr p ≡ q → (ValueTold g q texts → ⊥) → IsMatchedBy g (TakesValue g) p texts → ToldBy g (TakesValue g) q texts
  by_parts p q texts e other m = ⊎_elim (λ t. absurd (other (value_told g p q texts e t))) (λ x. x) (told_by g (TakesValue g) p q texts e m)

  -- no part of several that match nothing but the empty list matches more
  parts_empty : (parts : List Expr) (texts : List (List ℕ)) → ((part : Expr) → StandsIn parts part → (inner : List (List ℕ)) → IsMatchedBy g (TakesValue g) part inner → inner ≡ [])
      → AreMatchedBy g (TakesValue g) parts texts → texts ≡ []
  parts_empty parts texts each patterns.nothing = refl
  parts_empty parts texts each (patterns.more {part = part} {parts = more} left right e m ms) =
      both_empty texts left right e (each part (stands_first part more) left m) (parts_empty more right (λ p s. each p (stands_later part p more s)) ms)

  again_empty : (n : ℕ) (part : Expr) (texts : List (List ℕ)) → ((inner : List (List ℕ)) → IsMatchedBy g (TakesValue g) part inner → inner ≡ [])
      → IsRepeatedBy g (TakesValue g) n part texts → texts ≡ []
  again_empty n part texts each patterns.none = refl
  again_empty n part texts each (patterns.again left right e m ms) = both_empty texts left right e (each left m) (again_empty _ part right each ms)

  -- a pattern of children matches no text of a value
  pub no_text : (p : Expr) → IsOfChildren g p → (texts : List (List ℕ)) → IsMatchedBy g (TakesValue g) p texts → texts ≡ []
  no_text p sorts.empty texts m = by_parts p shape.Empty texts empty_shown (λ x. x) m
  no_text p sorts.not_allowed texts m = absurd (by_parts p shape.NotAllowed texts not_allowed_shown (λ x. x) m)
  no_text p sorts.text texts m = absurd (by_parts p shape.Text texts text_shown (λ x. x) m)
  no_text p (sorts.element {name = name} d) texts m =
      let x = by_parts p (shape.Ref name) texts (ref_shown name) (λ y. y) m in
      let two = once name _ _ d.defined x.1 in cc
  no_text p (sorts.part {name = name} inner d c) texts m =
      let x = by_parts p (shape.Ref name) texts (ref_shown name) (λ y. y) m in
      let two : body.Part inner ≡ body.Part x.0 = once name _ _ d x.1 in
      let same : inner ≡ x.0 = cc in
      no_text inner c texts (subst (λ y. IsMatchedBy g (TakesValue g) y texts) (sym same) x.2)
  no_text p (sorts.group parts e each) texts m =
      parts_empty parts texts (λ part s. no_text part (each part s)) (by_parts p (shape.Group parts) texts (ap out-Expr e ∙ group_shown parts) (λ x. x) m)
  no_text p (sorts.choice parts e each) texts m =
      let x = by_parts p (shape.Choice parts) texts (ap out-Expr e ∙ choice_shown parts) (λ y. y) m in
      no_text x.0 (each x.0 x.1) texts x.2
  no_text p (sorts.optional part e c) texts m =
      ⊎_elim (λ none. none) (λ k. no_text part c texts k) (by_parts p (shape.Optional part) texts (ap out-Expr e ∙ optional_shown part) (λ x. x) m)
  no_text p (sorts.zero_or_more part e c) texts m =
      let x = by_parts p (shape.ZeroOrMore part) texts (ap out-Expr e ∙ zero_or_more_shown part) (λ y. y) m in
      again_empty x.0 part texts (no_text part c) x.1
  no_text p (sorts.one_or_more part e c) texts m =
      let x = by_parts p (shape.OneOrMore part) texts (ap out-Expr e ∙ one_or_more_shown part) (λ y. y) m in
      again_empty (suc x.0) part texts (no_text part c) x.1

  -- so it allows no value
  pub no_value : (p : Expr) → IsOfChildren g p → (cs : List ℕ) → IsAllowed g p cs → ⊥
  no_value p c cs m = let e : cs ∷ [] ≡ [] = no_text p c (cs ∷ []) m in cc

  module _ (counts : Marking (List ℕ)) where
    word_none : (p : Expr) → IsOfWord g p → (nodes : List Node) → IsMatched g counts p nodes → ⊥
    word_none p sorts.not_allowed nodes m = told g counts p shape.NotAllowed nodes not_allowed_shown m
    word_none p (sorts.typed {k = k} {facets = facets}) nodes m = told g counts p (shape.Typed k facets) nodes (typed_shown k facets) m
    word_none p (sorts.same {text = text}) nodes m = told g counts p (shape.Same text) nodes (same_shown text) m
    word_none p (sorts.part {name = name} inner d c) nodes m =
        ⊎_elim (λ x. let two = once name _ _ d x.1.defined in cc)
        (λ x.
        let two : body.Part inner ≡ body.Part x.0 = once name _ _ d x.1 in
        let same : inner ≡ x.0 = cc in
        word_none inner c nodes (subst (λ y. IsMatched g counts y nodes) (sym same) x.2))
        (told g counts p (shape.Ref name) nodes (ref_shown name) m)
    word_none p (sorts.choice parts e each) nodes m =
        let x = told g counts p (shape.Choice parts) nodes (ap out-Expr e ∙ choice_shown parts) m in
        word_none x.0 (each x.0 x.1) nodes x.2

    -- a pattern of a value matches no children
    pub no_children : (p : Expr) → IsOfValue g p → (nodes : List Node) → IsMatched g counts p nodes → ⊥
    no_children p (sorts.word w) nodes m = word_none p w nodes m
    no_children p (sorts.words part e w) nodes m = told g counts p (shape.List part) nodes (ap out-Expr e ∙ list_shown part) m
    no_children p (sorts.part {name = name} inner d c) nodes m =
        ⊎_elim (λ x. let two = once name _ _ d x.1.defined in cc)
        (λ x.
        let two : body.Part inner ≡ body.Part x.0 = once name _ _ d x.1 in
        let same : inner ≡ x.0 = cc in
        no_children inner c nodes (subst (λ y. IsMatched g counts y nodes) (sym same) x.2))
        (told g counts p (shape.Ref name) nodes (ref_shown name) m)
    no_children p (sorts.choice parts e each) nodes m =
        let x = told g counts p (shape.Choice parts) nodes (ap out-Expr e ∙ choice_shown parts) m in
        no_children x.0 (each x.0 x.1) nodes x.2
