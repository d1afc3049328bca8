-- What `notAllowed` and a choice with it match, and which attributes rules take: small cases on both sides.
use Rattle.std.proofs.Common.{ℕ, Bool, true, false, ◌≡◌, ◌||◌, List, [], ◌∷◌, inl, refl, sym, ap, ◌∙◌, codes, rules}
use Rattle.std.specs.Prelude.{IsTrue}
use Rattle.std.proofs.lemmas.Bool.{false≢true}
use Rattle.std.proofs.lemmas.List.Elements.{All-nil, All-cons, All-head}
use Rattle.odd_text.specs.declared.name.Name.{Name}
use Rattle.odd_text.proofs.InList.{nothing_stands, only_item, stands_first, stands_later}
use Rattle.odd_tree.specs.Significant.{Marking, is_element}
use Rattle.odd_tree.specs.declared.tree.Attr.{Attr}
use Rattle.odd_tree.specs.declared.tree.Node as N
use Rattle.odd_tree.specs.declared.tree.Node.{Node, Text}
use Rattle.odd_tree.proofs.PrintedTrees.{apart}
use Rattle.rng_grammar.proofs.OnePattern.{told}
use Rattle.rng_grammar.specs.Acceptance.{AreMatched, AreRuled, HasRule, IsThere}
use Rattle.rng_grammar.specs.Patterns as patterns
use Rattle.rng_grammar.specs.Patterns.{IsMatched}
use Rattle.rng_grammar.specs.declared.grammar.AttrPart.TheVariants as attributes
use Rattle.rng_grammar.specs.declared.grammar.AttrRule.{AttrRule}
use Rattle.rng_grammar.specs.declared.grammar.Expr as E
use Rattle.rng_grammar.specs.declared.grammar.Expr.TheOpen as shape
use Rattle.rng_grammar.specs.declared.grammar.Expr.TheVariants as expr
use Rattle.rng_grammar.specs.declared.grammar.Grammar.{Grammar}

-- patterns

-- `notAllowed` matches nothing
nothing_matched : (g : Grammar) (counts : Marking (List ℕ)) (children : List Node) → IsMatched g counts expr.NotAllowed children → ⊥
nothing_matched g counts children m = told g counts expr.NotAllowed shape.NotAllowed children (search (rules, E.the_lemmas)) m

no_element : (x : List ℕ) → is_element (Text x) ≡ false
no_element x = search (rules, N.the_lemmas)

-- a choice of `notAllowed` and texts matches words
words_chosen : (g : Grammar) (counts : Marking (List ℕ)) → IsMatched g counts (expr.Choice (expr.NotAllowed ∷ expr.Text ∷ [])) (Text (codes "some words") ∷ [])
words_chosen g counts =
    patterns.choice refl (stands_later expr.NotAllowed expr.Text _ (stands_first expr.Text []))
    (patterns.leaf (patterns.text (ap (λ b. b || false) (no_element (codes "some words")))))

-- attributes

abbrev pub bare : Grammar
bare = record { start = expr.NotAllowed; defines = [] }

abbrev attribute : List ℕ → Attr
attribute local = record { name = record { ns = []; local = local }; value = codes "v" }

-- the attribute `n`, and a rule for it
abbrev an_attribute : Attr
an_attribute = attribute (codes "n")

abbrev rule : Bool → AttrRule
rule needed = record { name = record { ns = []; local = codes "n" }; needed = needed; value = expr.Text }

abbrev WhereNeeded : List Attr → AttrRule → Type 0
WhereNeeded attrs r = IsTrue r.needed → IsThere attrs r

-- an attribute with a rule that needs it is taken
needed_there : AreRuled bare (rule true ∷ []) (an_attribute ∷ [])
needed_there = record {
  ruled = All-cons (HasRule bare (rule true ∷ [])) an_attribute [] (rule true, ([], [], refl), refl, inl refl) (All-nil (HasRule bare (rule true ∷ [])));
  complete = All-cons (WhereNeeded (an_attribute ∷ [])) (rule true) [] (λ h. (an_attribute, ([], [], refl), refl)) (All-nil (WhereNeeded (an_attribute ∷ [])));
}

-- it may not lack
needed_lacking : AreRuled bare (rule true ∷ []) [] → ⊥
needed_lacking m = let h = All-head (WhereNeeded []) (rule true) [] m.complete refl in nothing_stands h.0 h.1

-- one that isn't needed may
unneeded_lacking : AreRuled bare (rule false ∷ []) []
unneeded_lacking = record { ruled = All-nil _; complete = All-cons (WhereNeeded []) (rule false) [] (λ h. absurd (false≢true h)) (All-nil (WhereNeeded [])) }

-- an attribute without a rule isn't taken
no_rule : AreRuled bare [] (an_attribute ∷ []) → ⊥
no_rule m = let h = All-head (HasRule bare []) an_attribute [] m.ruled in nothing_stands h.0 h.1

-- nor is one of another name
another_rule : (needed : Bool) → AreRuled bare (rule needed ∷ []) (attribute (codes "m") ∷ []) → ⊥
another_rule needed m =
    let h = All-head (HasRule bare (rule needed ∷ [])) (attribute (codes "m")) [] m.ruled in
    apart (codes "n") (codes "m") refl (ap (λ (r : AttrRule). r.name.local) (sym (only_item _ _ h.1)) ∙ ap (λ (n : Name). n.local) h.2)

-- nor one of another namespace
another_namespace : (needed : Bool) → AreRuled bare (rule needed ∷ []) (record { name = record { ns = codes "urn:x"; local = codes "n" }; value = codes "v" } ∷ []) → ⊥
another_namespace needed m =
    let h = All-head (HasRule bare (rule needed ∷ [])) _ [] m.ruled in
    apart [] (codes "urn:x") refl (ap (λ (r : AttrRule). r.name.ns) (sym (only_item _ _ h.1)) ∙ ap (λ (n : Name). n.ns) h.2)

-- but where any attributes may stand, each may
any_taken : (attrs : List Attr) → AreMatched bare attributes.AnyAttributes attrs
any_taken attrs = tt
