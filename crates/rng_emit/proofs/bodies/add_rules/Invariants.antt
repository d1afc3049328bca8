use Rattle.std.proofs.Common.{◌≡◌, ◌++◌, map, take}
use Rattle.odd_tree.specs.Markup.{all_of, all_printed}
use Rattle.rng_emit.specs.Grammar.{rule_markup}
use Rattle.rng_emit.proofs.bodies.add_rules.Given as goal

abbrev pub invariant-loop-rule : goal.invariant-loop-rule
invariant-loop-rule l = l.out ≡ l.fn.out ++ all_printed (all_of (map rule_markup (take l.rule-index l.rules)))
