use Rattle.std.proofs.Common.{◌∙◌, arith, ap}
use Rattle.std.proofs.lemmas.List.{take_all}
use Rattle.std.specs.Prelude.{sum_by}
use Rattle.rng_grammar.specs.Nodes.{nodes}
use Rattle.rng_grammar.specs.Weighing.{weight_in}
use Rattle.rng_grammar.proofs.Counting.{part_nodes}
use Rattle.rng_grammar.proofs.nodes.+pattern_nodes.Goals as goal

pub returns : goal.returns
returns t c =
    let count = weight_in c.args.places.now c.args.weights.now in
    let all = part_nodes count c.args.pattern.now c.in_default.not-Ref in
    let done = ap (sum_by (nodes count)) (take_all c.loop-part.part-index c.parts-part-items.result.now c.loop-part-test.false ∙ c.parts-part-items.ensures) in
    omega arith
