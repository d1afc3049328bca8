use Rattle.std.proofs.Common.{◌≡◌, map}
use Rattle.odd_tree.specs.Elements.{all_binds}
use Rattle.odd_tree.specs.Names.{last_bound}
use Rattle.odd_tree.proofs.in_force.bound.Given as goal

abbrev pub invariant-loop-level : goal.invariant-loop-level
invariant-loop-level l = last_bound (all_binds (map (λ b. b.now) l.around)) l.prefix ≡ last_bound (all_binds (map (λ b. b.now) l.level-iterator.iter.rest.now)) l.prefix
