use Rattle.odd_emit.specs.Contents.{value_markup}
use Rattle.odd_printing.proofs.Shapes.{printed_more}
use Rattle.odd_emit.proofs.data.add_values.Goals as goal

pub loop-value-preserved : goal.loop-value-preserved
loop-value-preserved c =
    printed_more value_markup c.args.values.now _ c.loop-value.value-index c.value-item.result c.args.out.now _ _ c.as_slice-value-items.ensures c.loop-value-test.true c.value-item.is
    c.loop-value.invariant c.in_ok-add_value.ensures
