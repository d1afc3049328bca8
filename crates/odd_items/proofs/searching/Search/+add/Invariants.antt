use Rattle.std.proofs.Common.{drop}
use Rattle.odd_tree.specs.Elements.{children_of, elements_of}
use Rattle.odd_items.proofs.Added.{AddsSoFar, texts}
use Rattle.odd_items.proofs.searching.Search.+add.Given as goal

abbrev pub invariant-loop-node : goal.invariant-loop-node
invariant-loop-node l =
    AddsSoFar (texts l.names) l.outermost (children_of l.tree) (elements_of (drop l.node-index l.node-items)) l.inside l.holder l.initial.self.levels.items l.self.levels.items l.initial.self.found.items l.self.found.items
