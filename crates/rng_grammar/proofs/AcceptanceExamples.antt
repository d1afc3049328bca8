-- Which elements a grammar accepts: small cases on both sides.
use Rattle.std.proofs.Common.{◌≡◌, false, true, ◌||◌, [], ◌∷◌, inl, inr, refl, sym, ap, subst, codes, rules}
use Rattle.std.specs.Prelude.{filter, not}
use Rattle.std.proofs.lemmas.List.Elements.{All-nil}
use Rattle.odd_text.specs.declared.name.Name.{Name}
use Rattle.odd_text.proofs.InList.{first_or_later, only_item}
use Rattle.odd_tree.specs.Significant.{IsSignificant, beside_elements, depth, is_blank, is_element, whole}
use Rattle.odd_tree.specs.declared.tree.Node as N
use Rattle.odd_tree.specs.declared.tree.Node.{Element}
use Rattle.odd_tree.specs.declared.tree.Tree as T
use Rattle.odd_tree.specs.declared.tree.Tree.{Tree}
use Rattle.rng_grammar.proofs.OnePattern.{ref_shown, told}
use Rattle.rng_grammar.specs.Acceptance.{Accepts, IsAcceptedBy, IsAcceptedWithin, IsInClass}
use Rattle.rng_grammar.specs.Acceptance as acceptance
use Rattle.rng_grammar.specs.Patterns as patterns
use Rattle.rng_grammar.specs.Patterns.{IsDefined, IsMatched}
use Rattle.rng_grammar.specs.declared.grammar.AttrPart.TheVariants as attributes
use Rattle.rng_grammar.specs.declared.grammar.AttrPart.{AttrPart}
use Rattle.rng_grammar.specs.declared.grammar.Body.TheVariants as body
use Rattle.rng_grammar.specs.declared.grammar.Body.{Body}
use Rattle.rng_grammar.specs.declared.grammar.Define.{Define}
use Rattle.rng_grammar.specs.declared.grammar.Expr.TheOpen as shape
use Rattle.rng_grammar.specs.declared.grammar.Expr.TheVariants as expr
use Rattle.rng_grammar.specs.declared.grammar.Expr.{Expr}
use Rattle.rng_grammar.specs.declared.grammar.Grammar.{Grammar}
use Rattle.rng_grammar.specs.declared.grammar.NameClass.TheVariants as class
use Rattle.rng_grammar.specs.declared.grammar.NameClass.{NameClass}
use Rattle.rng_grammar.proofs.ClassExamples.{in_none}
use Rattle.odd_tree.proofs.PrintedTrees.{apart}
use Rattle.rng_grammar.proofs.Examples.{b, define, plain, ref_a, ref_b, same_element}

-- acceptance: an `a` holds one `b` at least

abbrev nested : Grammar
nested = record { start = ref_a; defines = define (codes "a") (expr.OneOrMore ref_b) ∷ define (codes "b") expr.Empty ∷ [] }

abbrev branch : Tree
branch = plain (codes "a") (Element b ∷ Element b ∷ [])

b_element : is_element (Element b) ≡ true
b_element = search (rules, N.the_lemmas)

b_not_blank : is_blank (Element b) ≡ false
b_not_blank = search (rules, N.the_lemmas)

b_depth : depth b ≡ 1
b_depth = search (rules, T.the_lemmas, N.the_lemmas)

branch_depth : depth branch ≡ 2
branch_depth = search (rules, T.the_lemmas, N.the_lemmas)

both_kept : filter (λ n. not (is_blank n)) (Element b ∷ Element b ∷ []) ≡ Element b ∷ Element b ∷ []
both_kept = rw (b_not_blank) refl

both_count : IsSignificant (Element b ∷ Element b ∷ []) (Element b ∷ Element b ∷ [])
both_count = subst (IsSignificant (Element b ∷ Element b ∷ [])) both_kept (beside_elements (ap (λ x. x || (x || false)) b_element))

b_accepted : IsAcceptedWithin 1 nested b (codes "b")
b_accepted = record {
  names = class.One (in_none (codes "b"));
  attrs = attributes.Listed [];
  content = expr.Empty;
  defined = (define (codes "a") (expr.OneOrMore ref_b) ∷ [], [], refl);
  named = refl;
  attributed = record { ruled = All-nil _; complete = All-nil _ };
  holds = acceptance.children [] (whole refl) patterns.empty;
}

b_counts : IsMatched nested (IsAcceptedWithin 1 nested) ref_b (Element b ∷ [])
b_counts = patterns.leaf (patterns.element (record { names = _; attrs = _; content = _; defined = (define (codes "a") (expr.OneOrMore ref_b) ∷ [], [], refl) }) refl b_accepted)

branch_accepted : Accepts nested branch
branch_accepted = patterns.leaf (patterns.element (record { names = _; attrs = _; content = _; defined = ([], _, refl) }) refl
    (subst (λ n. IsAcceptedWithin n nested branch (codes "a")) (sym branch_depth) (record {
      names = class.One (in_none (codes "a"));
      attrs = attributes.Listed [];
      content = expr.OneOrMore ref_b;
      defined = ([], define (codes "b") expr.Empty ∷ [], refl);
      named = refl;
      attributed = record { ruled = All-nil _; complete = All-nil _ };
      holds = acceptance.children (Element b ∷ Element b ∷ []) both_count
          (patterns.one_or_more 1 refl (patterns.again (Element b ∷ []) (Element b ∷ []) refl b_counts (patterns.again (Element b ∷ []) [] refl b_counts patterns.none)));
    })))

-- a `b` is no `a`

abbrev class_of : Body → NameClass
class_of (body.Element names attrs content) = names
class_of (body.Part p) = class.AnyBut [] []

-- the define of an `a` has one body
body_of_a : (held : Body) → IsDefined nested (codes "a") held → held ≡ (define (codes "a") (expr.OneOrMore ref_b)).body
body_of_a held s = elim (first_or_later _ _ _ s) [
  | inl e ↦ ap (λ (d : Define). d.body) e
  | inr later ↦ apart (codes "a") (codes "b") refl (ap (λ (d : Define). d.name) (only_item _ _ later))
]

-- and one name class
class_of_a : (names : NameClass) (attrs : AttrPart) (content : Expr) → IsDefined nested (codes "a") (body.Element names attrs content) → names ≡ class.One (in_none (codes "a"))
class_of_a names attrs content s = ap class_of (body_of_a (body.Element names attrs content) s)

b_not_accepted : Accepts nested b → ⊥
b_not_accepted m = elim (told nested (λ u name. IsAcceptedWithin (depth u) nested u name) ref_a (shape.Ref (codes "a")) (Element b ∷ []) (ref_shown (codes "a")) m) [
  | inl found ↦
      let e = found.2 in
      let tree : b ≡ found.0 = same_element b found.0 cc in
      let deep : IsAcceptedWithin (depth b) nested b (codes "a") = subst (λ u. IsAcceptedWithin (depth u) nested u (codes "a")) (sym tree) found.3 in
      let h : IsAcceptedBy (IsAcceptedWithin 0 nested) nested b (codes "a") = subst (λ n. IsAcceptedWithin n nested b (codes "a")) b_depth deep in
      let names : h.names ≡ class.One (in_none (codes "a")) = class_of_a h.names h.attrs h.content h.defined in
      let named : in_none (codes "b") ≡ in_none (codes "a") = subst (λ c. IsInClass c (in_none (codes "b"))) names h.named in
      apart (codes "b") (codes "a") refl (ap (λ (n : Name). n.local) named)
  | inr part ↦ let e : body.Part part.0 ≡ (define (codes "a") (expr.OneOrMore ref_b)).body = body_of_a (body.Part part.0) part.1 in cc
]
