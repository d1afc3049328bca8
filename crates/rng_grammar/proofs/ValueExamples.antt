-- Which values patterns allow, and which patterns are of a value: small cases on both sides.
use Rattle.std.proofs.Common.{◌≡◌, ℕ, Bool, true, false, List, [], ◌∷◌, codes, refl, sym, ap, subst, ◌∙◌, ⊎_elim}
use Rattle.std.proofs.lemmas.Bool.{false≢true}
use Rattle.std.specs.Str.{chars}
use Rattle.odd_text.proofs.InList.{first_or_later, nothing_stands, only_item, stands_first, stands_later}
use Rattle.odd_tree.proofs.PrintedTrees.{apart}
use Rattle.rng_types.specs.Words.{words_of}
use Rattle.rng_types.specs.declared.data_type.DataType.TheVariants as kind
use Rattle.rng_values.specs.Lexical as lexical
use Rattle.rng_values.specs.Treated.{collapsed}
use Rattle.rng_grammar.proofs.OnePattern.{choice_shown, empty_shown, group_shown, list_shown, one_or_more_shown, optional_shown, ref_shown, told_by, zero_or_more_shown}
use Rattle.rng_grammar.proofs.RuleExamples.{bare}
use Rattle.rng_grammar.proofs.SortLaws.{not_allowed_shown}
use Rattle.rng_grammar.proofs.Values.{same_shown, typed_shown, value_told, word_told}
use Rattle.rng_grammar.specs.Patterns as patterns
use Rattle.rng_grammar.specs.Patterns.{IsAllowed, IsMatchedBy, TakesValue, TakesWord}
use Rattle.rng_grammar.specs.Sorts as sorts
use Rattle.rng_grammar.specs.Sorts.{IsOfValue, IsOfWord, IsOfWords}
use Rattle.rng_grammar.specs.declared.grammar.Expr.{Expr, Expr-F, out-Expr}
use Rattle.rng_grammar.specs.declared.grammar.Expr.TheOpen as shape
use Rattle.rng_grammar.specs.declared.grammar.Expr.TheVariants as expr
use Rattle.rng_grammar.specs.declared.grammar.Grammar.{Grammar}

abbrev letter_or_note : Expr
letter_or_note = expr.Choice (expr.Same (codes "letter") ∷ expr.Same (codes "note") ∷ [])

-- a `value` allows its text with white space around it
note_allowed : IsAllowed bare letter_or_note (chars (codes " note "))
unfolding chars
note_allowed = patterns.choice refl (stands_later _ _ _ (stands_first _ [])) (patterns.leaf (patterns.whole (patterns.same refl)))

-- a `list` of one or more takes a text by its words
two_notes_allowed : IsAllowed bare (expr.List (expr.OneOrMore (expr.Same (codes "note")))) (chars (codes "note note"))
unfolding chars
two_notes_allowed =
    let one = patterns.leaf (patterns.same refl) in
    patterns.leaf (patterns.words refl (patterns.one_or_more 1 refl (patterns.again (chars (codes "note") ∷ []) (chars (codes "note") ∷ []) refl one (patterns.again (chars (codes "note") ∷ []) [] refl one patterns.none))))

-- and a datatype what has its form
true_allowed : IsAllowed bare (expr.Typed kind.Boolean []) (chars (codes " true"))
unfolding chars
true_allowed = patterns.leaf (patterns.whole (patterns.typed lexical.yes (λ f s. absurd (nothing_stands f s))))

-- but no other text

not_same : (text cs : List ℕ) (p : Expr) → p ≡ expr.Same text → (collapsed (chars text) ≡ collapsed cs → ⊥) → IsAllowed bare p cs → ⊥
not_same text cs p e other m =
    ⊎_elim (λ t.
    let x = value_told bare p (shape.Same text) (cs ∷ []) (ap out-Expr e ∙ same_shown text) t in
    let one = x.1 in
    let is : x.0 ≡ cs = cc in
    other (x.2 ∙ ap collapsed is))
    (λ x. x) (told_by bare (TakesValue bare) p (shape.Same text) (cs ∷ []) (ap out-Expr e ∙ same_shown text) m)

poem_not_allowed : IsAllowed bare letter_or_note (chars (codes "poem")) → ⊥
unfolding chars
poem_not_allowed m =
    let parts = expr.Same (codes "letter") ∷ expr.Same (codes "note") ∷ [] in
    let cs = chars (codes "poem") in
    ⊎_elim (λ t. value_told bare letter_or_note (shape.Choice parts) (cs ∷ []) (choice_shown parts) t)
    (λ x. ⊎_elim (λ e. not_same (codes "letter") cs x.0 e (λ s. apart (codes "letter") (codes "poem") refl s) x.2)
    (λ later. not_same (codes "note") cs x.0 (only_item _ _ later) (λ s. apart (codes "note") (codes "poem") refl s) x.2) (first_or_later _ _ _ x.1))
    (told_by bare (TakesValue bare) letter_or_note (shape.Choice parts) (cs ∷ []) (choice_shown parts) m)

-- in a `list` a `value` takes one word, and no more

list_told : (part : Expr) (cs : List ℕ) → IsAllowed bare (expr.List part) cs → IsMatchedBy bare TakesWord part (words_of cs)
list_told part cs m =
    ⊎_elim (λ t.
    let x = value_told bare _ (shape.List part) (cs ∷ []) (list_shown part) t in
    let one = x.1 in
    let is : x.0 ≡ cs = cc in
    subst (λ c. IsMatchedBy bare TakesWord part (words_of c)) is x.2)
    (λ x. absurd x) (told_by bare (TakesValue bare) _ (shape.List part) (cs ∷ []) (list_shown part) m)

two_words_in_list : IsAllowed bare (expr.List (expr.Same (codes "a b"))) (chars (codes "a b")) → ⊥
unfolding chars
two_words_in_list m =
    let words = words_of (chars (codes "a b")) in
    ⊎_elim (λ t. let one = (word_told _ (shape.Same (codes "a b")) words (same_shown (codes "a b")) t).1 in cc) (λ x. absurd x)
    (told_by bare TakesWord _ (shape.Same (codes "a b")) words (same_shown (codes "a b")) (list_told _ (chars (codes "a b")) m))

-- the parts of a `group` take words one after another

abbrev a_then_b : List Expr
a_then_b = expr.Same (codes "a") ∷ expr.Same (codes "b") ∷ []

in_order : IsAllowed bare (expr.List (expr.Group a_then_b)) (chars (codes "a b"))
unfolding chars
in_order =
    let last = patterns.more (chars (codes "b") ∷ []) [] refl (patterns.leaf (patterns.same refl)) patterns.nothing in
    patterns.leaf (patterns.words refl (patterns.group refl (patterns.more (chars (codes "a") ∷ []) (chars (codes "b") ∷ []) refl (patterns.leaf (patterns.same refl)) last)))

-- a `group` may stand in a `list`

group_in_list : (g : Grammar) → IsOfValue g (expr.List (expr.Group a_then_b))
group_in_list g = sorts.words (expr.Group a_then_b) refl (sorts.group a_then_b refl (λ part s. sorts.word (⊎_elim is_word (λ later. is_word (only_item _ _ later)) (first_or_later _ _ _ s))))
  where
    is_word : {part : Expr} {text : List ℕ} → part ≡ expr.Same text → IsOfWord g part
    is_word e = subst (IsOfWord g) (sym e) sorts.same

-- but a `list` may not, and outside one a `group` is no value

abbrev in_list : Expr-F Expr → Bool
in_list (shape.List part) = false
in_list other = true

abbrev is_value : Expr-F Expr → Bool
is_value (shape.Group parts) = false
is_value other = true

abbrev IsWord : Expr-F Expr → Type 0
IsWord q = (in_list q ≡ true) × (is_value q ≡ true)

word_shape : (g : Grammar) (p : Expr) → IsOfWord g p → IsWord (out-Expr p)
word_shape g p sorts.not_allowed = subst IsWord (sym not_allowed_shown) (refl, refl)
word_shape g p (sorts.typed {k = k} {facets = facets}) = subst IsWord (sym (typed_shown k facets)) (refl, refl)
word_shape g p (sorts.same {text = text}) = subst IsWord (sym (same_shown text)) (refl, refl)
word_shape g p (sorts.part {name = name} inner d w) = subst IsWord (sym (ref_shown name)) (refl, refl)
word_shape g p (sorts.choice parts e each) = subst IsWord (sym (ap out-Expr e ∙ choice_shown parts)) (refl, refl)

words_shape : (g : Grammar) (p : Expr) → IsOfWords g p → in_list (out-Expr p) ≡ true
words_shape g p (sorts.word w) = (word_shape g p w).0
words_shape g p sorts.empty = ap in_list empty_shown
words_shape g p (sorts.group parts e each) = ap in_list (ap out-Expr e ∙ group_shown parts)
words_shape g p (sorts.choice parts e each) = ap in_list (ap out-Expr e ∙ choice_shown parts)
words_shape g p (sorts.optional part e w) = ap in_list (ap out-Expr e ∙ optional_shown part)
words_shape g p (sorts.zero_or_more part e w) = ap in_list (ap out-Expr e ∙ zero_or_more_shown part)
words_shape g p (sorts.one_or_more part e w) = ap in_list (ap out-Expr e ∙ one_or_more_shown part)

value_shape : (g : Grammar) (p : Expr) → IsOfValue g p → is_value (out-Expr p) ≡ true
value_shape g p (sorts.word w) = (word_shape g p w).1
value_shape g p (sorts.words part e w) = ap is_value (ap out-Expr e ∙ list_shown part)
value_shape g p (sorts.part {name = name} inner d w) = ap is_value (ref_shown name)
value_shape g p (sorts.choice parts e each) = ap is_value (ap out-Expr e ∙ choice_shown parts)

list_in_list : (g : Grammar) (part : Expr) → IsOfWords g (expr.List part) → ⊥
list_in_list g part h = false≢true (sym (ap in_list (list_shown part)) ∙ words_shape g _ h)

group_alone : (g : Grammar) (inner : List Expr) → IsOfValue g (expr.Group inner) → ⊥
group_alone g inner h = false≢true (sym (ap is_value (group_shown inner)) ∙ value_shape g _ h)
