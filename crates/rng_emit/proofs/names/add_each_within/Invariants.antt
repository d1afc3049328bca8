use Rattle.std.proofs.Common.{◌≡◌, ◌++◌, map, take}
use Rattle.odd_tree.specs.Markup.{all_of, all_printed}
use Rattle.rng_emit.specs.Grammar.{part_markup}
use Rattle.rng_emit.proofs.names.add_each_within.Given as goal

abbrev pub invariant-loop-part : goal.invariant-loop-part
invariant-loop-part l = l.out ≡ l.fn.out ++ all_printed (all_of (map part_markup (take l.part-index l.parts)))
