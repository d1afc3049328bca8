-- Which documents a grammar accepts (ISO/IEC 19757-2, section 9). No library is spoken of.
use Rattle.std.specs.Prelude.{◌≡◌, ◌⊎◌, ℕ, zero, suc, false, List, [], ◌∷◌, IsTrue, All}
use Rattle.std.specs.List.{list_any}
use Rattle.std.specs.Str.{chars}
use Rattle.odd_text.specs.declared.name.Name.{Name}
use Rattle.odd_text.specs.Standing.{StandsIn}
use Rattle.odd_tree.specs.Elements.{texts_in}
use Rattle.odd_tree.specs.Significant.{IsSignificant, Marking, depth, is_element}
use Rattle.odd_tree.specs.declared.tree.Attr.{Attr}
use Rattle.odd_tree.specs.declared.tree.Node.{Node, Element}
use Rattle.odd_tree.specs.declared.tree.Tree.{Tree, out-Tree}
use Rattle.rng_grammar.specs.Patterns.{IsAllowed, IsDefined, IsMatched}
use Rattle.rng_grammar.specs.declared.grammar.AttrPart.TheVariants as attributes
use Rattle.rng_grammar.specs.declared.grammar.AttrPart.{AttrPart}
use Rattle.rng_grammar.specs.declared.grammar.AttrRule.{AttrRule}
use Rattle.rng_grammar.specs.declared.grammar.Body.TheVariants as body
use Rattle.rng_grammar.specs.declared.grammar.Expr.TheVariants as expr
use Rattle.rng_grammar.specs.declared.grammar.Expr.{Expr}
use Rattle.rng_grammar.specs.declared.grammar.Grammar.{Grammar}
use Rattle.rng_grammar.specs.declared.grammar.NameClass.TheVariants as class
use Rattle.rng_grammar.specs.declared.grammar.NameClass.{NameClass}
use Rattle.rng_grammar.specs.declared.grammar.NsPart.{NsPart}

-- The name is of the class (section 9.2): it is that one; it is in none of some namespaces and none of some names; it is in a namespace, and
-- none of the names that are excepted there.
abbrev pub IsInClass : NameClass → Name → Type 0
IsInClass (class.One one) name = name ≡ one
IsInClass (class.AnyBut spaces names) name = (StandsIn spaces name.ns → ⊥) × (StandsIn names name → ⊥)
IsInClass (class.Within parts) name = (part : NsPart) × StandsIn parts part × (name.ns ≡ part.ns) × (StandsIn part.but name → ⊥)

-- the pattern of an attribute's value is `text`, which takes any, or it allows the value
abbrev pub IsValueOf : Grammar → Expr → List ℕ → Type 0
IsValueOf g p text = (p ≡ expr.Text) ⊎ IsAllowed g p (chars text)

-- a rule of the attribute's name, whose pattern is of its value
abbrev pub HasRule : Grammar → List AttrRule → Attr → Type 0
HasRule g rules a = (rule : AttrRule) × StandsIn rules rule × (rule.name ≡ a.name) × IsValueOf g rule.value a.value

abbrev pub IsThere : List Attr → AttrRule → Type 0
IsThere attrs rule = (a : Attr) × StandsIn attrs a × (a.name ≡ rule.name)

-- the attributes as a set: each has a rule, and each that is needed is there
pub record AreRuled (g : Grammar) (rules : List AttrRule) (attrs : List Attr) : Type 0 where
  pub ruled : All (HasRule g rules) attrs
  pub complete : All (λ rule. IsTrue rule.needed → IsThere attrs rule) rules

abbrev pub AreMatched : Grammar → AttrPart → List Attr → Type 0
AreMatched g attributes.AnyAttributes attrs = Unit {0}
AreMatched g (attributes.Listed rules) attrs = AreRuled g rules attrs

-- The content matches the significant children, or, where no element stands among the children, it allows their text as a value.
pub data HasContent (counts : Marking (List ℕ)) (g : Grammar) (content : Expr) (t : Tree) : Type 0 where
  children : (nodes : List Node) → IsSignificant (out-Tree t).children nodes → IsMatched g counts content nodes → HasContent counts g content t
  value : list_any is_element (out-Tree t).children ≡ false → IsAllowed g content (chars (texts_in (out-Tree t).children)) → HasContent counts g content t

-- An element is accepted by the define of the name, where each of its children is accepted by those that it counts for.
pub record IsAcceptedBy (counts : Marking (List ℕ)) (g : Grammar) (t : Tree) (name : List ℕ) : Type 0 where
  pub names : NameClass
  pub attrs : AttrPart
  pub content : Expr
  pub defined : IsDefined g name (body.Element names attrs content)
  pub named : IsInClass names (out-Tree t).name
  pub attributed : AreMatched g attrs (out-Tree t).attrs
  pub holds : HasContent counts g content t

-- by recursion on the depth
abbrev pub IsAcceptedWithin : ℕ → Grammar → Marking (List ℕ)
IsAcceptedWithin zero g t name = ⊥
IsAcceptedWithin (suc levels) g t name = IsAcceptedBy (IsAcceptedWithin levels g) g t name

-- the start matches the root
abbrev pub Accepts : Grammar → Tree → Type 0
Accepts g t = IsMatched g (λ u name. IsAcceptedWithin (depth u) g u name) g.start (Element t ∷ [])
