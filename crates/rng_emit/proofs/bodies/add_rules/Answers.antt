use Rattle.odd_printing.proofs.Shapes.{printed_more}
use Rattle.rng_emit.specs.Grammar.{rule_markup}
use Rattle.rng_emit.proofs.bodies.add_rules.Goals as goal

pub loop-rule-preserved : goal.loop-rule-preserved
loop-rule-preserved c =
    printed_more rule_markup c.args.rules.now _ c.loop-rule.rule-index c.rule-item.result c.args.out.now _ _ c.as_slice-rule-items.ensures c.loop-rule-test.true c.rule-item.is
    c.loop-rule.invariant c.in_ok-add_rule.ensures
