use Rattle.odd_printing.proofs.Shapes.{printed_more}
use Rattle.rng_emit.specs.Grammar.{name_markup}
use Rattle.rng_emit.proofs.names.add_excepted_names.Goals as goal

pub loop-name-preserved : goal.loop-name-preserved
loop-name-preserved c =
    printed_more name_markup c.args.names.now _ c.loop-name.name-index c.name-item.result c.args.out.now _ _ c.as_slice-name-items.ensures c.loop-name-test.true c.name-item.is
    c.loop-name.invariant c.in_ok-add_excepted_name.ensures
