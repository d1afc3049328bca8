use Rattle.std.proofs.Common.{◌≡◌, ◌++◌, map, take}
use Rattle.odd_tree.specs.Markup.{all_of, all_printed}
use Rattle.rng_emit.specs.Grammar.{pattern_markup}
use Rattle.rng_emit.proofs.patterns.+patterns.Given as goal

abbrev pub invariant-add_patterns-loop-pattern : goal.invariant-add_patterns-loop-pattern
invariant-add_patterns-loop-pattern l = l.out ≡ l.fn.out ++ all_printed (all_of (map pattern_markup (take l.pattern-index l.patterns)))
