use Rattle.odd_printing.proofs.Shapes.{printed_more}
use Rattle.rng_emit.specs.Grammar.{define_markup}
use Rattle.rng_emit.proofs.bodies.add_defines.Goals as goal

pub loop-define-preserved : goal.loop-define-preserved
loop-define-preserved c =
    printed_more define_markup c.args.defines.now _ c.loop-define.define-index c.define-item.result c.args.out.now _ _ c.as_slice-define-items.ensures c.loop-define-test.true c.define-item.is
    c.loop-define.invariant c.in_ok-add_define.ensures
