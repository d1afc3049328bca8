use Rattle.std.proofs.Common.{◌≡◌, ◌+◌, take}
use Rattle.std.specs.Prelude.{sum_by}
use Rattle.rng_grammar.specs.Counted.{counted}
use Rattle.rng_grammar.specs.Nodes.{nodes}
use Rattle.rng_grammar.specs.Weighing.{weight_in}
use Rattle.rng_grammar.proofs.nodes.+pattern_nodes.Given as goal

abbrev pub invariant-loop-part : goal.invariant-loop-part
invariant-loop-part l = l.count ≡ counted (1 + sum_by (nodes (weight_in l.places l.weights)) (take l.part-index l.part-items))
