use Rattle.std.proofs.Common.{◌++◌, ap, ◌∙◌}
use Rattle.odd_tree.specs.Markup.{printed}
use Rattle.odd_printing.proofs.Shapes.{printed_more}
use Rattle.rng_emit.specs.Grammar.{space_markup}
use Rattle.rng_emit.proofs.names.add_excepted_spaces.Goals as goal

pub loop-space-preserved : goal.loop-space-preserved
loop-space-preserved c =
    printed_more space_markup c.args.spaces.now _ c.loop-space.space-index c.space-item.result c.args.out.now _ _ c.as_slice-space-items.ensures c.loop-space-test.true c.space-item.is
    c.loop-space.invariant (c.in_ok-add_excepted_space.ensures ∙ ap (λ v. c.loop-space.out ++ printed (space_markup v)) c.as_str.ensures)
