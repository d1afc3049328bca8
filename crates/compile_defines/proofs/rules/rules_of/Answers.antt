use Rattle.std.proofs.Common.{map, ap, arith}
use Rattle.compile_defines.proofs.Taking.{making_refused}
use Rattle.compile_defines.proofs.RuleElements.{rules_within}
use Rattle.compile_defines.specs.Compiled.{offers_of, rule_of}
use Rattle.compile_defines.specs.Elements.{rule_elements, rules_elements}
use Rattle.compile_defines.proofs.rules.rules_of.Goals as goal

pub returns-in_err-rule_of : goal.returns-in_err-rule_of
returns-in_err-rule_of c =
    let item = c.loop-ident-item.result in
    let within = rules_within c.args.givens.now _ c.loop-ident.ident-index item c.entries-ident-items.ensures.all c.loop-ident-test.true c.loop-ident-item.is in
    let before = ap rules_elements c.loop-ident.invariant.pushed in
    let one = ap (λ def. rule_elements (rule_of (item.0, def))) c.get.ensures in
    making_refused rules_elements (map rule_of (offers_of c.args.givens.now)) (rule_elements (rule_of (item.0, c.get.result.now))) c.args.budget.now c.loop-ident.budget _ (λ less. omega arith)
    _ c.in_err-rule_of.ensures c.from_residual.result c.from_residual.ensures.1
