-- What validation asks of a tree: how deep it is, and which of an element's children count.
use Rattle.std.specs.Prelude.{◌≡◌, ℕ, suc, max, Bool, true, false, not, List, [], ◌∷◌, filter, IsTrue}
use Rattle.std.specs.List.{fold, list_any}
use Rattle.odd_tokens.specs.Characters.{is_white}
use Rattle.odd_tree.specs.declared.tree.Tree.{Tree, Tree-F, fold-Tree}
use Rattle.odd_tree.specs.declared.tree.Node.{Node, Node-F, out-Node}
use Rattle.odd_tree.specs.declared.tree.Node.TheOpen.{Element, Text}

abbrev pub node_depth : Node-F ℕ ℕ → ℕ
node_depth (Element depth) = depth
node_depth (Text text) = 0

abbrev pub tree_depth : Tree-F ℕ ℕ → ℕ
tree_depth t = suc (fold max 0 t.children)

-- how many levels of elements the tree has, with its root
abbrev pub depth : Tree → ℕ
depth = fold-Tree ℕ ℕ node_depth tree_depth

abbrev pub shows_element : Node-F Node Tree → Bool
shows_element (Element t) = true
shows_element (Text text) = false

abbrev pub is_element : Node → Bool
is_element n = shows_element (out-Node n)

abbrev pub shows_blank : Node-F Node Tree → Bool
shows_blank (Element t) = false
shows_blank (Text text) = is_white text

-- a text of white space alone
abbrev pub is_blank : Node → Bool
is_blank n = shows_blank (out-Node n)

-- The significant children of an element. Where an element is among the children, texts of white space alone do not count.
-- Where the only child is a text of white space, it counts, or it does not. Else all children count.
pub data IsSignificant : List Node → List Node → Type 0 where
  beside_elements : {children : List Node} → IsTrue (list_any is_element children) → IsSignificant children (filter (λ n. not (is_blank n)) children)
  blank : {child : Node} → IsTrue (is_blank child) → IsSignificant (child ∷ []) []
  whole : {children : List Node} → list_any is_element children ≡ false → IsSignificant children children

-- for which labels an element counts
abbrev pub Marking : Type 0 → Type 1
Marking Label = Tree → Label → Type 0
