-- An element without some that stand in it.
use Rattle.std.specs.Prelude.{◌≡◌, ℕ, zero, suc, ◌+◌, List, [], ◌∷◌, ◌++◌}
use Rattle.odd_tree.specs.declared.tree.Node.{Node, Element, Text}
use Rattle.odd_tree.specs.declared.tree.Tree.{Tree, out-Tree}

-- a text before some nodes: texts that come to stand side by side are one
abbrev pub text_before : List ℕ → List Node → List Node
text_before a (Text b ∷ ns) = Text (a ++ b) ∷ ns
text_before a ns = Text a ∷ ns

mutual
  -- the second element is the first without those that are gone, of which there are so many
  pub data IsWithout (Gone : Tree → Type 0) : Tree → Tree → ℕ → Type 0 where
    element : {t u : Tree} {count : ℕ} → (out-Tree u).name ≡ (out-Tree t).name → (out-Tree u).attrs ≡ (out-Tree t).attrs → (out-Tree u).binds ≡ (out-Tree t).binds
        → (out-Tree u).at ≡ (out-Tree t).at → AreWithout Gone (out-Tree t).children (out-Tree u).children count → IsWithout Gone t u count

  pub data AreWithout (Gone : Tree → Type 0) : List Node → List Node → ℕ → Type 0 where
    nothing : AreWithout Gone [] [] zero
    text : {ns left : List Node} {count : ℕ} (bytes : List ℕ) → AreWithout Gone ns left count → AreWithout Gone (Text bytes ∷ ns) (text_before bytes left) count
    kept : {t u : Tree} {ns left : List Node} {inside count : ℕ} → (Gone t → ⊥) → IsWithout Gone t u inside → AreWithout Gone ns left count
        → AreWithout Gone (Element t ∷ ns) (Element u ∷ left) (inside + count)
    gone : {t : Tree} {ns left : List Node} {count : ℕ} → Gone t → AreWithout Gone ns left count → AreWithout Gone (Element t ∷ ns) left (suc count)
