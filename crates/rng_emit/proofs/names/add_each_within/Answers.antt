use Rattle.odd_printing.proofs.Shapes.{printed_more}
use Rattle.rng_emit.specs.Grammar.{part_markup}
use Rattle.rng_emit.proofs.names.add_each_within.Goals as goal

pub loop-part-preserved : goal.loop-part-preserved
loop-part-preserved c =
    printed_more part_markup c.args.parts.now _ c.loop-part.part-index c.part-item.result c.args.out.now _ _ c.as_slice-part-items.ensures c.loop-part-test.true c.part-item.is
    c.loop-part.invariant c.in_ok-add_space_within.ensures
