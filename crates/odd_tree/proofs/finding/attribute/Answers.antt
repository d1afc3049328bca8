use Rattle.std.proofs.Common.{sym, ap, ◌∙◌}
use Rattle.odd_tree.specs.Elements.{attribute_value}
use Rattle.odd_tree.proofs.InTree.{attribute_here, attribute_next, attribute_none}
use Rattle.odd_tree.proofs.finding.attribute.Goals as goal

pub loop-attr-init : goal.loop-attr-init
loop-attr-init c = ap (λ xs. attribute_value xs c.args.local.now) c.as_slice-attr-items.ensures

pub returns-then-is_named : goal.returns-then-is_named
returns-then-is_named c =
    sym (attribute_here c.as_slice-attr-items.result.now c.loop-attr.attr-index c.attr-item.result c.args.local.now c.loop-attr-test.true c.attr-item.is (sym c.is_named.ensures ∙ c.if-is_named.true))
    ∙ c.loop-attr.invariant

pub loop-attr-preserved : goal.loop-attr-preserved
loop-attr-preserved c =
    sym (attribute_next c.as_slice-attr-items.result.now c.loop-attr.attr-index c.attr-item.result c.args.local.now c.loop-attr-test.true c.attr-item.is (sym c.is_named.ensures ∙ c.if-is_named.false))
    ∙ c.loop-attr.invariant

pub returns : goal.returns
returns c = sym (attribute_none c.as_slice-attr-items.result.now c.loop-attr.attr-index c.args.local.now c.loop-attr-test.false) ∙ c.loop-attr.invariant
