use Rattle.std.proofs.Common.{◌≡◌}
use Rattle.std.specs.Prelude.{reverse}
use Rattle.odd_reader.specs.Resolving.{around}
use Rattle.odd_tree.specs.Names.{last_bound}
use Rattle.odd_reader.proofs.around.Around.bound_around.Given as goal

abbrev pub invariant-loop-element : goal.invariant-loop-element
invariant-loop-element l = last_bound (around (reverse l.self.open.now)) l.prefix ≡ last_bound (around (reverse l.element-iterator.iter.rest.now)) l.prefix
