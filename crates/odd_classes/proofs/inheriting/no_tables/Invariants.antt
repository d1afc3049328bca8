use Rattle.std.proofs.Common.{◌≡◌, None, replicate}
use Rattle.odd_classes.proofs.inheriting.no_tables.Given as goal

abbrev pub invariant-loop : goal.invariant-loop
invariant-loop l = l.tables.items ≡ replicate l.counter None
