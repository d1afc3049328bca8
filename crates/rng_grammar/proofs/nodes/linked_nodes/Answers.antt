use Rattle.std.proofs.Common.{◌∙◌, length}
use Rattle.rng_grammar.proofs.Counting.{counted_sum, element_alike, nodes_alike, sum_alike}
use Rattle.rng_grammar.specs.Nodes.{element_nodes, reference_nodes}
use Rattle.rng_grammar.specs.Weighing.{weight_in}
use Rattle.rng_grammar.specs.declared.grammar.Define.{Define}
use Rattle.rng_grammar.proofs.nodes.linked_nodes.Goals as goal

pub returns : goal.returns
returns c =
    let g = c.args.grammar.now in
    let weighed = weight_in c.in_ok-places.places c.in_ok-weights.weights.items in
    let count = reference_nodes (length g.defines) g in
    let start = rw c.as_slice.ensures.value at c.pattern_nodes-start.ensures in
    let elements = rw c.as_slice-2.ensures.value at c.elements_nodes-elements.ensures in
    let start_alike = nodes_alike weighed count g.start (λ name r. c.in_ok-weights.ensures name) in
    let all_alike = sum_alike (λ (d : Define). element_nodes weighed d.body) (λ d. element_nodes count d.body) g.defines (λ d s. element_alike weighed count c.in_ok-weights.ensures d.body) in
    c.saturating_add.ensures ∙ counted_sum _ _ _ _ (start ∙ start_alike) (elements ∙ all_alike)
