use Rattle.std.proofs.Common.{◌≡◌, ◌++◌, map, take}
use Rattle.odd_tree.specs.Markup.{all_of, all_printed}
use Rattle.rng_emit.specs.Grammar.{param_markup}
use Rattle.rng_emit.proofs.values.add_params.Given as goal

abbrev pub invariant-loop-facet : goal.invariant-loop-facet
invariant-loop-facet l = l.out ≡ l.fn.out ++ all_printed (all_of (map param_markup (take l.facet-index l.facets)))
