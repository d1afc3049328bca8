-- All elements of a tree; and, of two that say the same in another order, each element beside the one that it has become.
use Rattle.std.specs.Prelude.{◌≡◌, Bool, false, List, [], ◌∷◌, ◌++◌}
use Rattle.odd_tree.specs.Elements.{children_of}
use Rattle.odd_tree.specs.declared.tree.Tree.{Tree}
use Rattle.order_laws.specs.Reordered.{IsReordered, is_loose}

mutual
  -- the element and all that stand in it, in document order
  pub data AreAllOf : Tree → List Tree → Type 0 where
    element : {t : Tree} {below : List Tree} → AreAllAmong (children_of t) below → AreAllOf t (t ∷ below)

  -- several elements and all that stand in them
  pub data AreAllAmong : List Tree → List Tree → Type 0 where
    nothing : AreAllAmong [] []
    next : {t : Tree} {ts all : List Tree} (first later : List Tree) → AreAllOf t first → AreAllAmong ts later → all ≡ first ++ later → AreAllAmong (t ∷ ts) all

mutual
  -- The pairs of all elements of two trees, in the order of the first: each element of the one, and that of the other which says the same in another order.
  pub data ArePaired : Tree → Tree → List (Tree × Tree) → Type 0 where
    element : {t u : Tree} {below : List (Tree × Tree)} → IsReordered t u → AreAllPaired (is_loose t) (children_of t) (children_of u) below → ArePaired t u ((t, u) ∷ below)

  -- those of several elements, which stand in any order or in the same one
  pub data AreAllPaired : Bool → List Tree → List Tree → List (Tree × Tree) → Type 0 where
    nothing : {loose : Bool} → AreAllPaired loose [] [] []
    next : {loose : Bool} {t u : Tree} {ts us : List Tree} {pairs : List (Tree × Tree)} (before after : List Tree) (first later : List (Tree × Tree)) → us ≡ before ++ u ∷ after
        → (loose ≡ false → before ≡ []) → ArePaired t u first → AreAllPaired loose ts (before ++ after) later → pairs ≡ first ++ later → AreAllPaired loose (t ∷ ts) us pairs
