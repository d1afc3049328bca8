use Rattle.std.proofs.Common.{◌≡◌, ◌++◌, map, take}
use Rattle.odd_tree.specs.Markup.{all_of, all_printed}
use Rattle.rng_emit.specs.Grammar.{space_markup}
use Rattle.rng_emit.proofs.names.add_excepted_spaces.Given as goal

abbrev pub invariant-loop-space : goal.invariant-loop-space
invariant-loop-space l = l.out ≡ l.fn.out ++ all_printed (all_of (map space_markup (take l.space-index l.spaces)))
