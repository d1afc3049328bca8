-- Of a formed element in which nothing is gone all is left.
use Rattle.std.proofs.Common.{◌≡◌, ℕ, List, [], ◌∷◌, refl, subst}
use Rattle.odd_tree.specs.Formed.{AreApart, AreFormed, IsFormed}
use Rattle.odd_tree.specs.Formed as formed
use Rattle.odd_tree.specs.declared.tree.Node.{Node, Text}
use Rattle.odd_tree.specs.declared.tree.Tree.{Tree, out-Tree}
use Rattle.odd_items.specs.Without.{AreWithout, IsWithout, text_before}
use Rattle.odd_items.specs.Without as left

-- a text that is apart from others stands before the rest as it is
text_alone : (bytes : List ℕ) (ns : List Node) → AreApart (Text bytes ∷ ns) → (text_before bytes ns ≡ Text bytes ∷ ns) × AreApart ns
text_alone bytes [] a = (refl, a.2)
text_alone bytes (Text other ∷ ns) a = absurd a
text_alone bytes (n ∷ ns) a = (refl, a.2)

module _ (Gone : Tree → Type 0) (none : (c : Tree) → Gone c → ⊥) where
  mutual
    pub all_left : (first end : ℕ) (t : Tree) → IsFormed first end t → IsWithout Gone t t 0
    all_left first end t (formed.element low tag apart nodes) = left.element refl refl refl refl (nodes_left _ end (out-Tree t).children apart nodes)

    nodes_left : (first end : ℕ) (ns : List Node) → AreApart ns → AreFormed first end ns → AreWithout Gone ns ns 0
    nodes_left first end ns apart (formed.nothing h) = left.nothing
    nodes_left first end ns apart (formed.text {bytes = bytes} {nodes = rest} later) =
        let alone = text_alone bytes rest apart in
        subst (λ ms. AreWithout Gone (Text bytes ∷ rest) ms 0) alone.0 (left.text bytes (nodes_left first end rest alone.1 later))
    nodes_left first end ns apart (formed.child {t = t} {nodes = rest} between one later) =
        left.kept (none t) (all_left first between t one) (nodes_left between end rest apart later)
