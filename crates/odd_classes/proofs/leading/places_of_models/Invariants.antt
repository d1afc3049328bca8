use Rattle.std.proofs.Common.{◌↔◌, ◌<◌, ℕ}
use Rattle.std.specs.List.{Contains}
use Rattle.odd_classes.specs.Leading.{IsModelHere}
use Rattle.odd_classes.proofs.leading.places_of_models.Given as goal

abbrev pub invariant-loop-place : goal.invariant-loop-place
invariant-loop-place l = (place : ℕ) → Contains l.places place ↔ ((place < l.place) × IsModelHere l.entries place)
