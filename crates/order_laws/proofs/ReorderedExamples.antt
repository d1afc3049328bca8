-- Small theorems on reordering: two children that change places are said in another order where theirs doesn't count, and are not where it counts.
use Rattle.std.proofs.Common.{◌≡◌, ◌≢◌, true, false, [], ◌∷◌, ◌++◌, refl, subst}
use Rattle.odd_tree.specs.declared.tree.Tree.{Tree, out-Tree}
use Rattle.order_laws.specs.Reordered.{AreReordered, IsReordered}

swapped : (a b : Tree) → IsReordered a a → IsReordered b b → AreReordered true (a ∷ b ∷ []) (b ∷ a ∷ [])
swapped a b one other = AreReordered.next (b ∷ []) [] refl (λ e. absurd cc) one (AreReordered.next [] [] refl (λ e. refl) other AreReordered.nothing)

same_name : (t u : Tree) → IsReordered t u → (out-Tree t).name ≡ (out-Tree u).name
same_name t u (IsReordered.element name attrs binds said children) = name

fixed : (a b : Tree) → (out-Tree a).name ≢ (out-Tree b).name → AreReordered false (a ∷ b ∷ []) (b ∷ a ∷ []) → ⊥
fixed a b differ (AreReordered.next {u = u} before after is front one others) =
    let first : b ∷ a ∷ [] ≡ u ∷ after = subst (λ xs. b ∷ a ∷ [] ≡ xs ++ u ∷ after) (front refl) is in
    let same : u ≡ b = cc in
    differ (subst (λ t. (out-Tree a).name ≡ (out-Tree t).name) same (same_name a u one))
