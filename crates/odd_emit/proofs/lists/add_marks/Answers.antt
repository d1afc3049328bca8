use Rattle.odd_emit.specs.Attributes.{mark_markup}
use Rattle.odd_printing.proofs.Shapes.{printed_more}
use Rattle.odd_emit.proofs.lists.add_marks.Goals as goal

pub loop-value-preserved : goal.loop-value-preserved
loop-value-preserved c =
    printed_more mark_markup c.args.marks.now _ c.loop-value.value-index c.loop-value-item.result c.args.out.now _ _ c.entries-value-items.ensures.all c.loop-value-test.true c.loop-value-item.is
    c.loop-value.invariant c.in_ok-add_mark.ensures
