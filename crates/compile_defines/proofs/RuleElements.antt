-- How many elements the rules of attributes are, and the define of an element that has them.
use Rattle.std.proofs.Common.{◌≡◌, ◌∙◌, ◌<◌, ◌≤◌, ℕ, ◌+◌, List, [], ◌∷◌, ◌++◌, length, get_or, map, take, ap, arith}
use Rattle.std.proofs.lemmas.List.Sums.{sum_by-append, sum_by-cons, sum_by_more_le}
use Rattle.std.specs.Prelude.{sum_by}
use Rattle.odd_offers.specs.declared.given.Given.{Given}
use Rattle.odd_text.specs.declared.name.Name.{Name}
use Rattle.rng_emit.specs.Grammar.{pattern_markup, rule_markup}
use Rattle.rng_emit.specs.Nodes.{elements_in}
use Rattle.rng_grammar.specs.declared.grammar.AttrPart.TheVariants as attributes
use Rattle.rng_grammar.specs.declared.grammar.AttrRule.{AttrRule}
use Rattle.rng_grammar.specs.declared.grammar.Body.TheVariants as body
use Rattle.rng_grammar.specs.declared.grammar.Expr.{Expr}
use Rattle.rng_grammar.specs.declared.grammar.NameClass.TheVariants as class
use Rattle.compile_defines.proofs.Elements.{among_sum, sum_by-map}
use Rattle.compile_defines.specs.Budget.{pattern_elements}
use Rattle.compile_defines.specs.Compiled.{offers_of, rule_of}
use Rattle.compile_defines.specs.Elements.{define_elements, rule_elements, rules_elements}

-- those of the rule of what is given
abbrev given_elements : List ℕ × Given → ℕ
given_elements e = rule_elements (rule_of (e.0, e.1.def))

-- and of all that is given
given_sum : (givens : List (List ℕ × Given)) → rules_elements (map rule_of (offers_of givens)) ≡ sum_by given_elements givens
given_sum givens = sum_by-map rule_elements rule_of (offers_of givens) ∙ sum_by-map (λ o. rule_elements (rule_of o)) (λ e. (e.0, e.1.def)) givens

-- those of the first and of the next are no more than those of all
pub rules_within : (givens items : List (List ℕ × Given)) (i : ℕ) (e : List ℕ × Given) → items ≡ givens → i < length items → e ≡ get_or items i e
    → rules_elements (map rule_of (offers_of (take i items))) + rule_elements (rule_of (e.0, e.1.def)) ≤ rules_elements (map rule_of (offers_of givens))
rules_within givens items i e same within is =
    let there = ap given_elements is in
    let some = given_sum (take i items) in
    let all = given_sum givens in
    let whole = ap (sum_by given_elements) same in
    let next = sum_by_more_le given_elements items i e within in
    omega arith

-- the define of an element is two elements with those of its rules and its content
pub element_elements : (name : List ℕ) (one : Name) (rules : List AttrRule) (content : Expr)
    → define_elements (record { name = name; body = body.Element (class.One one) (attributes.Listed rules) content }) ≡ 2 + rules_elements rules + pattern_elements content
element_elements name one rules content =
    let inside = map rule_markup rules ++ pattern_markup content ∷ [] in
    let among = among_sum inside in
    let both = sum_by-append elements_in (map rule_markup rules) (pattern_markup content ∷ []) in
    let last = sum_by-cons elements_in (pattern_markup content) [] in
    let first = sum_by-map elements_in rule_markup rules in
    omega arith
