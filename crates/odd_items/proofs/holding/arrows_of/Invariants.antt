use Rattle.std.proofs.Common.{◌≡◌, [], vec_len}
use Rattle.std.specs.List.{All}
use Rattle.odd_items.proofs.holding.arrows_of.Given as goal

abbrev pub invariant-loop : goal.invariant-loop
invariant-loop l = (vec_len l.arrows ≡ l.index) × All (λ list. list ≡ []) l.arrows.items
