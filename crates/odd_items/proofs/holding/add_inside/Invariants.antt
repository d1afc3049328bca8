use Rattle.std.proofs.Common.{◌<◌}
use Rattle.odd_items.specs.Arrows.{HasGrown, IsInside}
use Rattle.odd_items.proofs.holding.add_inside.Given as goal

abbrev pub invariant-loop-place : goal.invariant-loop-place
invariant-loop-place l = HasGrown l.initial.arrows.items l.arrows.items (λ holder place. (place < l.place) × IsInside l.found holder place)
