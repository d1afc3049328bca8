use Rattle.std.proofs.Common.{◌≡◌, ◌++◌}
use Rattle.std.specs.List.{filter_map}
use Rattle.odd_forms.specs.Faults.{value_in, values_in}
use Rattle.odd_forms.proofs.twice.values_in.Given as goal

abbrev pub invariant-loop-child : goal.invariant-loop-child
invariant-loop-child l = l.values ++ filter_map (value_in l.element l.local) l.child-iterator ≡ values_in l.element l.local l.tree
