use Rattle.odd_emit.specs.Contents.{facet_markup}
use Rattle.odd_printing.proofs.Shapes.{printed_more}
use Rattle.odd_emit.proofs.data.add_facets.Goals as goal

pub loop-facet-preserved : goal.loop-facet-preserved
loop-facet-preserved c =
    printed_more facet_markup c.args.facets.now _ c.loop-facet.facet-index c.facet-item.result c.args.out.now _ _ c.as_slice-facet-items.ensures c.loop-facet-test.true c.facet-item.is
    c.loop-facet.invariant c.in_ok-add_facet.ensures
