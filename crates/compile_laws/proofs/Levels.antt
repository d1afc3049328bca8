-- The depth of a tree: a child is less deep. Significant children are children.
use Rattle.std.proofs.Common.{◌≡◌, ℕ, suc, max, ◌<◌, ◌≤◌, fold, List, [], ◌∷◌, map, inl, inr, arith, rules}
use Rattle.std.specs.Prelude.{All}
use Rattle.odd_tree.specs.declared.tree.Node.{Node, Element, fold-Node}
use Rattle.odd_tree.specs.declared.tree.Node as N
use Rattle.odd_tree.specs.declared.tree.Tree.{Tree, out-Tree}
use Rattle.odd_tree.specs.declared.tree.Tree as T
use Rattle.odd_text.specs.Standing.{StandsIn}
use Rattle.odd_tree.specs.Significant.{IsSignificant, beside_elements, blank, depth, node_depth, tree_depth, whole}
use Rattle.odd_text.proofs.InList.{first_or_later, map_stands, nothing_stands}
use Rattle.compile_defines.proofs.Standing.{each_stands, filter_stands}

-- the greatest of some numbers is none less
from_start : (start : ℕ) (ns : List ℕ) → start ≤ fold max start ns
from_start start [] = omega arith
from_start start (n ∷ ns) = let h : max start n ≤ fold max (max start n) ns = from_start (max start n) ns in omega arith

greatest : (start n : ℕ) (ns : List ℕ) → StandsIn ns n → n ≤ fold max start ns
greatest start n [] s = absurd (nothing_stands n s)
greatest start n (m ∷ ns) s = elim (first_or_later m n ns s) [
  | inl e ↦ let h : max start m ≤ fold max (max start m) ns = from_start (max start m) ns in omega arith
  | inr later ↦ greatest (max start m) n ns later
]

-- the levels of a node: of a text none
abbrev levels_of : Node → ℕ
levels_of = fold-Node ℕ ℕ node_depth tree_depth

levels_element : (u : Tree) → levels_of (Element u) ≡ depth u
levels_element u = search (rules, N.the_lemmas, T.the_lemmas)

pub depth_is : (t : Tree) → depth t ≡ suc (fold max 0 (map levels_of (out-Tree t).children))
depth_is t = search (rules, N.the_lemmas, T.the_lemmas)

-- a child is less deep
pub child_less : (t u : Tree) → StandsIn (out-Tree t).children (Element u) → depth u < depth t
child_less t u s =
    let h : levels_of (Element u) ≤ fold max 0 (map levels_of (out-Tree t).children) =
    greatest 0 (levels_of (Element u)) (map levels_of (out-Tree t).children) (map_stands levels_of (out-Tree t).children (Element u) s) in
    let e : levels_of (Element u) ≡ depth u = levels_element u in
    let d : depth t ≡ suc (fold max 0 (map levels_of (out-Tree t).children)) = depth_is t in
    omega arith

-- significant children are children
pub kept_stands : (all kept : List Node) (n : Node) → IsSignificant all kept → StandsIn kept n → StandsIn all n
kept_stands all kept n (beside_elements h) s = filter_stands _ all n s
kept_stands all kept n (blank b) s = absurd (nothing_stands n s)
kept_stands all kept n (whole h) s = s

-- so each of them stands there
pub all_kept : (t : Tree) (kept : List Node) → IsSignificant (out-Tree t).children kept → All (StandsIn (out-Tree t).children) kept
all_kept t kept h = each_stands (StandsIn (out-Tree t).children) kept (λ n s. kept_stands (out-Tree t).children kept n h s)
