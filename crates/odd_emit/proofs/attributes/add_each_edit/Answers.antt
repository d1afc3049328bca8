use Rattle.odd_emit.specs.Attributes.{edit_markup}
use Rattle.odd_printing.proofs.Shapes.{printed_more}
use Rattle.odd_emit.proofs.attributes.add_each_edit.Goals as goal

pub loop-ident-preserved : goal.loop-ident-preserved
loop-ident-preserved c =
    printed_more edit_markup c.args.edits.now _ c.loop-ident.ident-index c.loop-ident-item.result c.args.out.now _ _ c.entries-ident-items.ensures c.loop-ident-test.true c.loop-ident-item.is
    c.loop-ident.invariant c.in_ok-add_edit.ensures
