-- What a content gives, part by part, for theorems that go by induction over its parts.
use Rattle.std.proofs.Common.{◌≡◌, ◌<◌, ◌≤◌, ℕ, zero, suc, max, fold, List, [], ◌∷◌, ◌++◌, Option, Some, None, inl, inr, refl, sym, subst, arith, rules, map}
use Rattle.odd_text.specs.declared.name.Bind.{Bind}
use Rattle.odd_text.specs.Standing.{StandsIn}
use Rattle.odd_tree.specs.Elements.{children_of, elements_of, within}
use Rattle.odd_tree.specs.Significant.{depth, node_depth, tree_depth}
use Rattle.odd_tree.specs.declared.tree.Node.{Node, Element, Text, fold-Node}
use Rattle.odd_tree.specs.declared.tree.Node as N
use Rattle.odd_tree.specs.declared.tree.Tree.{Tree, out-Tree}
use Rattle.odd_tree.specs.declared.tree.Tree as T
use Rattle.odd_tree.proofs.InTree.{with_element, with_text}
use Rattle.odd_text.proofs.InList.{first_or_later, map_stands, nothing_stands, stands_first, stands_later}
use Rattle.odd_forms.specs.Tags.{tags_in}
use Rattle.odd_forms.specs.declared.element.Element.{Element as Kind}
use Rattle.odd_content.specs.Giving.{given_by, part_content, part_named, parts_in}
use Rattle.odd_content.specs.declared.content.Content.{Content}
use Rattle.odd_content.proofs.Parts.{IsOfKind, element_gives, kind_of, text_gives}

-- the greatest of some numbers is none less
from_start : (start : ℕ) (ns : List ℕ) → start ≤ fold max start ns
from_start start [] = omega arith
from_start start (n ∷ ns) = let h : max start n ≤ fold max (max start n) ns = from_start (max start n) ns in omega arith

greatest : (start n : ℕ) (ns : List ℕ) → StandsIn ns n → n ≤ fold max start ns
greatest start n [] s = absurd (nothing_stands n s)
greatest start n (m ∷ ns) s = elim (first_or_later m n ns s) [
  | inl e ↦ let h : max start m ≤ fold max (max start m) ns = from_start (max start m) ns in omega arith
  | inr later ↦ greatest (max start m) n ns later
]

-- the levels of a node: of a text none
abbrev levels_of : Node → ℕ
levels_of = fold-Node ℕ ℕ node_depth tree_depth

levels_element : (u : Tree) → levels_of (Element u) ≡ depth u
levels_element u = search (rules, N.the_lemmas, T.the_lemmas)

depth_is : (t : Tree) → depth t ≡ suc (fold max 0 (map levels_of (out-Tree t).children))
depth_is t = search (rules, N.the_lemmas, T.the_lemmas)

-- a child is less deep
child_less : (t u : Tree) → StandsIn (out-Tree t).children (Element u) → depth u < depth t
child_less t u s =
    let h : levels_of (Element u) ≤ fold max 0 (map levels_of (out-Tree t).children) =
    greatest 0 (levels_of (Element u)) (map levels_of (out-Tree t).children) (map_stands levels_of (out-Tree t).children (Element u) s) in
    let e : levels_of (Element u) ≡ depth u = levels_element u in
    let d : depth t ≡ suc (fold max 0 (map levels_of (out-Tree t).children)) = depth_is t in
    omega arith

mutual
  -- what a part gives under the declarations around it
  pub data IsPart : List Bind → Tree → Content → Type 0 where
    part : {around : List Bind} {t : Tree} {parts : List Content} (kind : Kind) → part_named (out-Tree t).name ≡ Some kind → AreParts (within around t) (children_of t) parts
        → IsPart around t (part_content kind (within around t) (out-Tree t).attrs (tags_in t) parts)

  -- and what the parts among some elements give
  pub data AreParts : List Bind → List Tree → List Content → Type 0 where
    nothing : {around : List Bind} → AreParts around [] []
    other : {around : List Bind} {t : Tree} {ts : List Tree} {cs : List Content} → part_named (out-Tree t).name ≡ None → AreParts around ts cs → AreParts around (t ∷ ts) cs
    more : {around : List Bind} {t : Tree} {ts : List Tree} {c : Content} {cs : List Content} → IsPart around t c → AreParts around ts cs → AreParts around (t ∷ ts) (c ∷ cs)

-- the parts in the element give what is read in it
abbrev AreGiven : List Bind → Tree → Type 0
AreGiven around t = AreParts (within around t) (children_of t) (parts_in (within around t) (out-Tree t).children)

module _ (around : List Bind) (ns : List Node) (rest : AreParts around (elements_of ns) (parts_in around ns)) where
  first_given : (n : Node) → IsOfKind n → ((u : Tree) → StandsIn (n ∷ ns) (Element u) → AreGiven around u) → AreParts around (elements_of (n ∷ ns)) (parts_in around (n ∷ ns))
  first_given _ (IsOfKind.element t) inner =
      subst (λ ts. AreParts around ts (parts_in around (Element t ∷ ns))) (sym (with_element t ns))
      (subst (λ cs. AreParts around (t ∷ elements_of ns) (cs ++ parts_in around ns)) (sym (element_gives around t)) (by_kind (part_named (out-Tree t).name) refl))
    where
      by_kind : (o : Option Kind) → part_named (out-Tree t).name ≡ o
          → AreParts around (t ∷ elements_of ns) (given_by o (within around t) (out-Tree t).attrs (tags_in t) (parts_in (within around t) (out-Tree t).children) ++ parts_in around ns)
      by_kind None e = AreParts.other e rest
      by_kind (Some kind) e = AreParts.more (IsPart.part kind e (inner t (stands_first (Element t) ns))) rest
  first_given _ (IsOfKind.text x) inner =
      subst (λ ts. AreParts around ts (parts_in around (Text x ∷ ns))) (sym (with_text x ns))
      (subst (λ cs. AreParts around (elements_of ns) (cs ++ parts_in around ns)) (sym (text_gives around x)) rest)

each_given : (around : List Bind) (ns : List Node) → ((u : Tree) → StandsIn ns (Element u) → AreGiven around u) → AreParts around (elements_of ns) (parts_in around ns)
each_given around [] inner = AreParts.nothing
each_given around (n ∷ ns) inner = first_given around ns (each_given around ns (λ u s. inner u (stands_later n (Element u) ns s))) n (kind_of n) inner

within_levels : (n : ℕ) (around : List Bind) (t : Tree) → depth t < n → AreGiven around t
within_levels zero around t h = absurd (omega (arith, h))
within_levels (suc n) around t h = each_given (within around t) (out-Tree t).children (λ u s. within_levels n (within around t) u (omega (arith, child_less t u s)))

-- what is read in a content is what its parts give
pub parts_given : (around : List Bind) (t : Tree) → AreParts (within around t) (children_of t) (parts_in (within around t) (out-Tree t).children)
parts_given around t = within_levels (suc (depth t)) around t (omega arith)
