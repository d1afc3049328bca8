use Rattle.std.proofs.Common.{◌≡◌, take}
use Rattle.std.specs.Prelude.{sum_by}
use Rattle.rng_grammar.specs.Counted.{counted}
use Rattle.rng_grammar.specs.Nodes.{nodes}
use Rattle.rng_grammar.specs.Weighing.{weight_in}
use Rattle.rng_grammar.proofs.nodes.rules_nodes.Given as goal

abbrev pub invariant-loop-rule : goal.invariant-loop-rule
invariant-loop-rule l = l.count ≡ counted (sum_by (λ rule. nodes (weight_in l.places l.weights) rule.value) (take l.rule-index l.rules))
