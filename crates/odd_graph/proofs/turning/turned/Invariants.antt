use Rattle.std.proofs.Common.{◌≡◌, [], vec_len}
use Rattle.std.specs.List.{All}
use Rattle.odd_graph.proofs.OneMore.{TurnedSoFar}
use Rattle.odd_graph.proofs.turning.turned.Given as goal

abbrev pub invariant-loop : goal.invariant-loop
invariant-loop l = (vec_len l.made ≡ l.index) × All (λ list. list ≡ []) l.made.items

abbrev pub invariant-loop-node : goal.invariant-loop-node
invariant-loop-node l = TurnedSoFar l.arrows l.made.items l.node
