use Rattle.std.proofs.Common.{◌≡◌, ◌++◌, map, take}
use Rattle.odd_tree.specs.Markup.{all_of, all_printed}
use Rattle.rng_emit.specs.Grammar.{name_markup}
use Rattle.rng_emit.proofs.names.add_excepted_names.Given as goal

abbrev pub invariant-loop-name : goal.invariant-loop-name
invariant-loop-name l = l.out ≡ l.fn.out ++ all_printed (all_of (map name_markup (take l.name-index l.names)))
