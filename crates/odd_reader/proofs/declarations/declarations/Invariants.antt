use Rattle.std.proofs.Common.{◌≡◌}
use Rattle.odd_reader.specs.Resolving.{binds_made, plain_made}
use Rattle.odd_reader.proofs.declarations.declarations.Given as goal

abbrev pub invariant-loop-attr : goal.invariant-loop-attr
invariant-loop-attr l = (l.binds ≡ binds_made l.yielded) × (l.plain.items ≡ plain_made l.yielded)
