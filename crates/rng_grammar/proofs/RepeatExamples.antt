-- What groups, optional parts and repeated ones match: small cases on both sides.
use Rattle.std.proofs.Common.{◌≡◌, ℕ, suc, false, List, [], ◌∷◌, ◌++◌, ◌⊎◌, inl, inr, refl, ap, subst, ◌∙◌, codes}
use Rattle.odd_text.specs.Same.{is_same}
use Rattle.odd_tree.specs.declared.tree.Node.{Node, Element}
use Rattle.odd_tree.specs.declared.tree.Tree.{Tree}
use Rattle.rng_grammar.proofs.Examples.{Matches, a, a_matched, b, b_matched, b_not_a, by_name, one_alone, other_name, ref_a, ref_b, sample, two_not_a}
use Rattle.rng_grammar.proofs.OnePattern.{group_shown, one_or_more_shown, optional_shown, told, zero_or_more_shown}
use Rattle.rng_grammar.specs.Patterns as patterns
use Rattle.rng_grammar.specs.Patterns.{AreMatched, IsRepeated}
use Rattle.rng_grammar.specs.declared.grammar.Expr.TheOpen as shape
use Rattle.rng_grammar.specs.declared.grammar.Expr.TheVariants as expr
use Rattle.rng_grammar.specs.declared.grammar.Expr.{Expr}

-- a group is a split, in order

abbrev a_then_b : Expr
a_then_b = expr.Group (ref_a ∷ ref_b ∷ [])

in_order : Matches a_then_b (Element a ∷ Element b ∷ [])
in_order = patterns.group refl (patterns.more (Element a ∷ []) (Element b ∷ []) refl a_matched (patterns.more (Element b ∷ []) [] refl b_matched patterns.nothing))

record BeginsWith (name : List ℕ) (Rest : List Node → Type 0) (children : List Node) : Type 0 where
  one : Tree
  rest : List Node
  split : children ≡ Element one ∷ rest
  is_named : by_name one name
  matched : Rest rest

-- one of some names, and the rest
begins : (name : List ℕ) (p : Expr) (left right children : List Node) (Rest : List Node → Type 0) → is_same name (codes "part") ≡ false → p ≡ expr.Ref name → children ≡ left ++ right
    → Matches p left → Rest right → BeginsWith name Rest children
begins name p left right children Rest e is split m rest =
    let o = one_alone name left e (subst (λ q. Matches q left) is m) in
    record { one = o.one; rest = right; split = split ∙ ap (λ xs. xs ++ right) o.alone; is_named = o.is_named; matched = rest }

-- a group that begins with a reference matches its element first
first_of_group : (name : List ℕ) (parts all : List Expr) (children : List Node) → is_same name (codes "part") ≡ false → all ≡ expr.Ref name ∷ parts → AreMatched sample by_name all children
    → BeginsWith name (AreMatched sample by_name parts) children
first_of_group name parts all children e is patterns.nothing = cc
first_of_group name parts all children e is (patterns.more {part = p} {parts = more} left right split m ms) =
    let first : p ≡ expr.Ref name = cc in
    let others : more ≡ parts = cc in
    begins name p left right children (AreMatched sample by_name parts) e first split m (subst (λ ps. AreMatched sample by_name ps right) others ms)

first_of_two : (children : List Node) → Matches a_then_b children → BeginsWith (codes "a") (AreMatched sample by_name (ref_b ∷ [])) children
first_of_two children m =
    first_of_group (codes "a") (ref_b ∷ []) (ref_a ∷ ref_b ∷ []) children refl refl (told sample by_name a_then_b (shape.Group (ref_a ∷ ref_b ∷ [])) children (group_shown (ref_a ∷ ref_b ∷ [])) m)

out_of_order : Matches a_then_b (Element b ∷ Element a ∷ []) → ⊥
out_of_order m =
    let s = first_of_two (Element b ∷ Element a ∷ []) m in
    let e = s.split in
    other_name b s.one (codes "a") refl (cc) s.is_named

half_a_group : Matches a_then_b (Element a ∷ []) → ⊥
half_a_group m =
    let s = first_of_two (Element a ∷ []) m in
    let e = s.split in
    let f = (first_of_group (codes "b") [] (ref_b ∷ []) s.rest refl refl s.matched).split in
    cc

-- one or none

absent : Matches (expr.Optional ref_a) []
absent = patterns.absent ref_a refl

present : Matches (expr.Optional ref_a) (Element a ∷ [])
present = patterns.present refl a_matched

present_twice : Matches (expr.Optional ref_a) (Element a ∷ Element a ∷ []) → ⊥
present_twice m = elim (told sample by_name (expr.Optional ref_a) (shape.Optional ref_a) _ (optional_shown ref_a) m) [ inl none ↦ cc | inr once ↦ two_not_a once ]

another_present : Matches (expr.Optional ref_a) (Element b ∷ []) → ⊥
another_present m = elim (told sample by_name (expr.Optional ref_a) (shape.Optional ref_a) _ (optional_shown ref_a) m) [ inl none ↦ cc | inr once ↦ b_not_a once ]

-- any number, and one at least

a_repeated : (n : ℕ) (right : List Node) → IsRepeated sample by_name n ref_a right → IsRepeated sample by_name (suc n) ref_a (Element a ∷ right)
a_repeated n right h = patterns.again (Element a ∷ []) right refl a_matched h

never : Matches (expr.ZeroOrMore ref_a) []
never = patterns.zero_or_more 0 refl patterns.none

twice : Matches (expr.ZeroOrMore ref_a) (Element a ∷ Element a ∷ [])
twice = patterns.zero_or_more 2 refl (a_repeated 1 _ (a_repeated 0 _ patterns.none))

at_least_once : Matches (expr.OneOrMore ref_a) (Element a ∷ [])
at_least_once = patterns.one_or_more 0 refl (a_repeated 0 _ patterns.none)

repeated_from : (n : ℕ) (p : Expr) (children : List Node) → p ≡ ref_a → IsRepeated sample by_name n p children → ((n ≡ 0) × (children ≡ [])) ⊎ BeginsWith (codes "a") (λ rest. Unit {0}) children
repeated_from n p children e patterns.none = inl (refl, refl)
repeated_from n p children e (patterns.again left right split m ms) = inr (begins (codes "a") p left right children (λ rest. Unit {0}) refl e split m tt)

another_repeated : Matches (expr.ZeroOrMore ref_a) (Element b ∷ []) → ⊥
another_repeated m =
    let r = told sample by_name (expr.ZeroOrMore ref_a) (shape.ZeroOrMore ref_a) _ (zero_or_more_shown ref_a) m in
    elim (repeated_from r.0 ref_a _ refl r.1) [
      | inl none ↦ let e = none.1 in cc
      | inr s ↦ let e = s.split in other_name b s.one (codes "a") refl (cc) s.is_named
    ]

not_once : Matches (expr.OneOrMore ref_a) [] → ⊥
not_once m =
    let r = told sample by_name (expr.OneOrMore ref_a) (shape.OneOrMore ref_a) _ (one_or_more_shown ref_a) m in
    elim (repeated_from (suc r.0) ref_a _ refl r.1) [
      | inl none ↦ let e = none.0 in cc
      | inr s ↦ let e = s.split in cc
    ]
