use Rattle.std.proofs.Common.{◌≡◌, map, take}
use Rattle.rng_values.specs.Treated.{collapsed_text}
use Rattle.odd_forms.proofs.twice.all_collapsed.Given as goal

abbrev pub invariant-loop-value : goal.invariant-loop-value
invariant-loop-value l = l.made ≡ map collapsed_text (take l.value-index l.value-items)
