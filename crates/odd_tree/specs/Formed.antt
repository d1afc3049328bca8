-- What holds of each tree that a file spells (XML 1.0, sections 2.2, 2.4 and 3.1; Namespaces in XML 1.0, sections 3 and 6.3).
use Rattle.std.specs.Prelude.{◌≡◌, ◌≢◌, ◌≤◌, ◌⊎◌, ℕ, suc, List, [], ◌∷◌, map, All}
use Rattle.odd_text.specs.declared.name.Bind.{Bind}
use Rattle.odd_tree.specs.declared.tree.Attr.{Attr}
use Rattle.odd_tree.specs.declared.tree.Tree.{Tree, out-Tree}
use Rattle.odd_tree.specs.declared.tree.Node.{Node, Element, Text}
use Rattle.odd_tokens.specs.Characters.{IsLegal, IsNCName}
use Rattle.odd_tree.specs.Names.{IsBinding}
use Rattle.odd_tokens.specs.Tokens.{NoneTwice}

-- no prefix, or a name without colon
abbrev pub IsPrefix : List ℕ → Type 0
IsPrefix prefix = (prefix ≡ []) ⊎ IsNCName prefix

-- the name of an element, its attributes and its bindings
pub record IsFormedTag (t : Tree) : Type 0 where
  pub named : IsNCName (out-Tree t).name.local
  pub attributes_named : All (λ (a : Attr). IsNCName a.name.local) (out-Tree t).attrs
  pub valued : All (λ (a : Attr). IsLegal a.value) (out-Tree t).attrs
  pub once : NoneTwice (map (λ (a : Attr). a.name) (out-Tree t).attrs)
  pub bound : All IsBinding (out-Tree t).binds
  pub within : IsLegal (out-Tree t).name.ns
  pub attributes_within : All (λ (a : Attr). IsLegal a.name.ns) (out-Tree t).attrs
  pub prefixed : All (λ (b : Bind). IsPrefix b.prefix) (out-Tree t).binds
  pub bound_to : All (λ (b : Bind). IsLegal b.ns) (out-Tree t).binds
  pub bound_once : NoneTwice (map (λ (b : Bind). b.prefix) (out-Tree t).binds)

-- no text is empty, and none stands beside another
abbrev pub AreApart : List Node → Type 0
AreApart [] = Unit {0}
AreApart (Text t ∷ Text u ∷ nodes) = ⊥
AreApart (Text t ∷ nodes) = (t ≢ []) × IsLegal t × AreApart nodes
AreApart (node ∷ nodes) = AreApart nodes

mutual
  -- the element begins at the first byte or after it and ends before the second, and those in it begin at places that rise
  pub data IsFormed : ℕ → ℕ → Tree → Type 0 where
    element : {first end : ℕ} {t : Tree} → first ≤ (out-Tree t).at → IsFormedTag t → AreApart (out-Tree t).children
        → AreFormed (suc (out-Tree t).at) end (out-Tree t).children → IsFormed first end t

  pub data AreFormed : ℕ → ℕ → List Node → Type 0 where
    nothing : {first end : ℕ} → first ≤ end → AreFormed first end []
    text : {first end : ℕ} {bytes : List ℕ} {nodes : List Node} → AreFormed first end nodes → AreFormed first end (Text bytes ∷ nodes)
    child : {first end : ℕ} {t : Tree} {nodes : List Node} (between : ℕ) → IsFormed first between t → AreFormed between end nodes
        → AreFormed first end (Element t ∷ nodes)
