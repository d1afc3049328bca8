use Rattle.odd_emit.specs.Components.{member_markup}
use Rattle.odd_printing.proofs.Shapes.{printed_more}
use Rattle.odd_emit.proofs.components.add_members.Goals as goal

pub loop-key-preserved : goal.loop-key-preserved
loop-key-preserved c =
    printed_more member_markup c.args.classes.now _ c.loop-key.key-index c.key-item.result c.args.out.now _ _ c.as_slice-key-items.ensures c.loop-key-test.true c.key-item.is
    c.loop-key.invariant c.in_ok-add_member.ensures
