-- What references and choices match: small cases on both sides.
use Rattle.std.proofs.Common.{◌≡◌, ℕ, false, List, [], ◌∷◌, inl, inr, refl, sym, ap, subst, ◌∙◌, codes}
use Rattle.odd_tree.proofs.InTree.{element_shown}
use Rattle.odd_text.proofs.InList.{first_or_later, only_item}
use Rattle.odd_tree.specs.Significant.{Marking}
use Rattle.odd_tree.specs.declared.tree.Node.{Node, Element}
use Rattle.odd_tree.specs.declared.tree.Tree.{Tree, out-Tree, roll-Tree}
use Rattle.odd_text.specs.Same.{is_same}
use Rattle.rng_grammar.proofs.OnePattern.{ref_shown, choice_shown, told}
use Rattle.rng_grammar.specs.Patterns as patterns
use Rattle.rng_grammar.specs.Patterns.{IsDefined, IsMatched}
use Rattle.rng_grammar.specs.declared.grammar.AttrPart.TheVariants as attributes
use Rattle.rng_grammar.specs.declared.grammar.Body.TheVariants as body
use Rattle.rng_grammar.specs.declared.grammar.Define.{Define}
use Rattle.rng_grammar.specs.declared.grammar.Expr.TheOpen as shape
use Rattle.rng_grammar.specs.declared.grammar.Expr.TheVariants as expr
use Rattle.rng_grammar.specs.declared.grammar.Expr.{Expr, out-Expr}
use Rattle.rng_grammar.specs.declared.grammar.Grammar.{Grammar}
use Rattle.rng_grammar.specs.declared.grammar.NameClass.TheVariants as class
use Rattle.odd_tree.proofs.PrintedTrees.{apart}

-- trees and grammars

abbrev pub plain : List ℕ → List Node → Tree
plain local children = roll-Tree (record { name = record { ns = []; local = local }; attrs = []; binds = []; children = children; at = 0 })

abbrev pub a : Tree
a = plain (codes "a") []

abbrev pub b : Tree
b = plain (codes "b") []

abbrev pub define : List ℕ → Expr → Define
define local content = record { name = local; body = body.Element (class.One (record { ns = []; local = local })) (attributes.Listed []) content }

abbrev pub ref_a : Expr
ref_a = expr.Ref (codes "a")

abbrev pub ref_b : Expr
ref_b = expr.Ref (codes "b")

abbrev pub a_or_b : Expr
a_or_b = expr.Choice (ref_a ∷ ref_b ∷ [])

-- two elements, and `part`, which holds no element
abbrev pub sample : Grammar
sample = record { start = expr.Ref (codes "part"); defines = define (codes "a") expr.Empty ∷ define (codes "b") expr.Empty ∷ record { name = codes "part"; body = body.Part a_or_b } ∷ [] }

-- an element counts for the define of its local name
abbrev pub by_name : Marking (List ℕ)
by_name t name = (out-Tree t).name.local ≡ name

abbrev pub Matches : Expr → List Node → Type 0
Matches = IsMatched sample by_name

-- equal nodes hold equal elements
pub same_element : (t u : Tree) → Element t ≡ Element u → t ≡ u
same_element t u e = let both : t ∷ [] ≡ u ∷ [] = sym (element_shown (Element t) t refl) ∙ element_shown (Element t) u e in cc

-- an element of one name is none of another
pub other_name : {R : Type 0} (t u : Tree) (name : List ℕ) → is_same (out-Tree t).name.local name ≡ false → Element t ≡ Element u → by_name u name → R
other_name t u name e same n = apart (out-Tree t).name.local name e (ap (λ (x : Tree). (out-Tree x).name.local) (same_element t u same) ∙ n)

-- a reference to an element matches one of the name

pub a_matched : Matches ref_a (Element a ∷ [])
a_matched = patterns.leaf (patterns.element (record { names = _; attrs = _; content = _; defined = ([], _, refl) }) refl refl)

pub b_matched : Matches ref_b (Element b ∷ [])
b_matched = patterns.leaf (patterns.element (record { names = _; attrs = _; content = _; defined = (define (codes "a") expr.Empty ∷ [], _, refl) }) refl refl)

-- no define but `part` holds no element
record IsPartOfTwo (name : List ℕ) (p : Expr) : Type 0 where
  is_named : name ≡ codes "part"
  is : p ≡ a_or_b

part_of_two : (name : List ℕ) (p : Expr) → IsDefined sample name (body.Part p) → IsPartOfTwo name p
part_of_two name p s = elim (first_or_later _ _ _ s) [
  | inl e ↦ let f : body.Part p ≡ (define (codes "a") expr.Empty).body = ap (λ (d : Define). d.body) e in cc
  | inr later ↦ elim (first_or_later _ _ _ later) [
    | inl e ↦ let f : body.Part p ≡ (define (codes "b") expr.Empty).body = ap (λ (d : Define). d.body) e in cc
    | inr last ↦
        let e = only_item _ _ last in
        let f : body.Part p ≡ body.Part a_or_b = ap (λ (d : Define). d.body) e in
        record { is_named = ap (λ (d : Define). d.name) e; is = cc }
  ]
]

pub record IsOne (name : List ℕ) (children : List Node) : Type 0 where
  pub one : Tree
  pub alone : children ≡ Element one ∷ []
  pub is_named : by_name one name

-- a reference to an element says its name
pub one_alone : (name : List ℕ) (children : List Node) → is_same name (codes "part") ≡ false → Matches (expr.Ref name) children → IsOne name children
one_alone name children e m = elim (told sample by_name _ (shape.Ref name) children (ref_shown name) m) [
  | inl found ↦ record { one = found.0; alone = found.2; is_named = found.3 }
  | inr part ↦ apart name (codes "part") e (part_of_two name part.0 part.1).is_named
]

-- and nothing else

pub b_not_a : Matches ref_a (Element b ∷ []) → ⊥
b_not_a m = let o = one_alone (codes "a") _ refl m in let e = o.alone in other_name b o.one (codes "a") refl (cc) o.is_named

none_not_a : Matches ref_a [] → ⊥
none_not_a m = let e = (one_alone (codes "a") _ refl m).alone in cc

none_not_b : Matches ref_b [] → ⊥
none_not_b m = let e = (one_alone (codes "b") _ refl m).alone in cc

pub two_not_a : Matches ref_a (Element a ∷ Element a ∷ []) → ⊥
two_not_a m = let e = (one_alone (codes "a") _ refl m).alone in cc

-- a reference to a define that holds no element matches what its pattern does

part_matched : Matches (expr.Ref (codes "part")) (Element b ∷ [])
part_matched = patterns.part (define (codes "a") expr.Empty ∷ define (codes "b") expr.Empty ∷ [], [], refl) (patterns.choice refl (ref_a ∷ [], [], refl) b_matched)

choice_of_none : (p : Expr) → p ≡ a_or_b → Matches p [] → ⊥
choice_of_none p e m =
    let chosen = told sample by_name p (shape.Choice (ref_a ∷ ref_b ∷ [])) [] (ap out-Expr e ∙ choice_shown (ref_a ∷ ref_b ∷ [])) m in
    elim (first_or_later _ _ _ chosen.1) [
      | inl first ↦ none_not_a (subst (λ q. Matches q []) first chosen.2)
      | inr later ↦ none_not_b (subst (λ q. Matches q []) (only_item _ _ later) chosen.2)
    ]

part_not_none : Matches (expr.Ref (codes "part")) [] → ⊥
part_not_none m = elim (told sample by_name (expr.Ref (codes "part")) (shape.Ref (codes "part")) [] (ref_shown (codes "part")) m) [
  | inl found ↦ let e = found.2 in cc
  | inr part ↦ choice_of_none part.0 (part_of_two _ part.0 part.1).is part.2
]
