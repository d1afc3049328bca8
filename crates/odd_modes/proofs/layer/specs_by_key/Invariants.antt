use Rattle.std.proofs.Common.{◌≡◌, ◌++◌, map}
use Rattle.odd_modes.proofs.ByKey.{values}
use Rattle.odd_modes.proofs.layer.specs_by_key.Given as goal

abbrev pub invariant-loop-one : goal.invariant-loop-one
invariant-loop-one l = map (λ s. s.now) l.specs.items ++ values l.one-iterator.rest.items ≡ values l.initial.one-iterator.rest.items
