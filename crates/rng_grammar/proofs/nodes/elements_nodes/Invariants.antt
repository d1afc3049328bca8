use Rattle.std.proofs.Common.{◌≡◌, take}
use Rattle.std.specs.Prelude.{sum_by}
use Rattle.rng_grammar.specs.Counted.{counted}
use Rattle.rng_grammar.specs.Nodes.{element_nodes}
use Rattle.rng_grammar.specs.Weighing.{weight_in}
use Rattle.rng_grammar.proofs.nodes.elements_nodes.Given as goal

abbrev pub invariant-loop-define : goal.invariant-loop-define
invariant-loop-define l = l.count ≡ counted (sum_by (λ d. element_nodes (weight_in l.places l.weights) d.body) (take l.define-index l.defines))
