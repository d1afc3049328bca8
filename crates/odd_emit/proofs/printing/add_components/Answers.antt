use Rattle.odd_emit.specs.Components.{entry_markup}
use Rattle.odd_printing.proofs.Shapes.{printed_more}
use Rattle.odd_emit.proofs.printing.add_components.Goals as goal

pub loop-key-preserved : goal.loop-key-preserved
loop-key-preserved c =
    printed_more entry_markup c.args.parts.now _ c.loop-key.key-index c.loop-key-item.result c.args.out.now _ _ c.entries-key-items.ensures.all c.loop-key-test.true c.loop-key-item.is
    c.loop-key.invariant c.in_ok-add_component.ensures
