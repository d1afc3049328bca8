use Rattle.std.proofs.Common.{◌≡◌, map, take}
use Rattle.odd_items.proofs.around.level_bindings.Given as goal

abbrev pub invariant-loop-level : goal.invariant-loop-level
invariant-loop-level l = l.made.items ≡ map (λ l. l.binds.now) (take l.level-index l.levels)
