use Rattle.std.proofs.Common.{◌≡◌, ◌++◌, map, take}
use Rattle.odd_tree.specs.Markup.{all_of, all_printed}
use Rattle.rng_emit.specs.Grammar.{define_markup}
use Rattle.rng_emit.proofs.bodies.add_defines.Given as goal

abbrev pub invariant-loop-define : goal.invariant-loop-define
invariant-loop-define l = l.out ≡ l.fn.out ++ all_printed (all_of (map define_markup (take l.define-index l.defines)))
