-- Two ODD files that say the same in another order.
use Rattle.std.specs.Prelude.{◌≡◌, Bool, true, false, List, [], ◌∷◌, ◌++◌, codes}
use Rattle.odd_tree.specs.Elements.{children_of}
use Rattle.odd_tree.specs.declared.tree.Tree.{Tree, out-Tree}
use Rattle.odd_forms.specs.Names.{is_one_of}
use Rattle.odd_forms.specs.Texts.{collapsed_in}

-- the children of these stand in any order: items, attributes, memberships and values
abbrev pub is_loose : Tree → Bool
is_loose = is_one_of (codes "schemaSpec" ∷ codes "specGrp" ∷ codes "attList" ∷ codes "classes" ∷ codes "valList" ∷ [])

-- a text counts in an `altIdent` alone, and white space beside it and within it as one space
abbrev pub SaysTheSame : Tree → Tree → Type 0
SaysTheSame t u = is_one_of (codes "altIdent" ∷ []) t ≡ true → collapsed_in t ≡ collapsed_in u

mutual
  -- Their tags differ in nothing but where they stand; and each child of one is a child of the other, said in another order, in the same order but where
  -- the children stand in any.
  pub data IsReordered : Tree → Tree → Type 0 where
    element : {t u : Tree} → (out-Tree t).name ≡ (out-Tree u).name → (out-Tree t).attrs ≡ (out-Tree u).attrs → (out-Tree t).binds ≡ (out-Tree u).binds
        → SaysTheSame t u → AreReordered (is_loose t) (children_of t) (children_of u) → IsReordered t u

  pub data AreReordered : Bool → List Tree → List Tree → Type 0 where
    nothing : {loose : Bool} → AreReordered loose [] []
    next : {loose : Bool} {t u : Tree} {ts us : List Tree} (before after : List Tree) → us ≡ before ++ u ∷ after → (loose ≡ false → before ≡ []) → IsReordered t u
        → AreReordered loose ts (before ++ after) → AreReordered loose (t ∷ ts) us
