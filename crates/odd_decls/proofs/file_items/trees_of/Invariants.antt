use Rattle.std.proofs.Common.{◌≡◌, map, take}
use Rattle.odd_decls.proofs.file_items.trees_of.Given as goal

abbrev pub invariant-loop-kept : goal.invariant-loop-kept
invariant-loop-kept l = map (λ t. t.now) l.trees.items ≡ map (λ k. k.tree.now) (take l.kept-index l.found)
