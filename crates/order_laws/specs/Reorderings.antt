-- ODD files that say the same in another order, one after the other.
use Rattle.std.specs.Prelude.{List, [], ◌∷◌}
use Rattle.odd_tree.specs.declared.tree.Tree.{Tree}
use Rattle.order_laws.specs.Reordered.{IsReordered}

pub data AreReorderings : List Tree → List Tree → Type 0 where
  none : AreReorderings [] []
  more : {t u : Tree} {ts us : List Tree} → IsReordered t u → AreReorderings ts us → AreReorderings (t ∷ ts) (u ∷ us)
