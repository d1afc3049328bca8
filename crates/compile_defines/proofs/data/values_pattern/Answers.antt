use Rattle.std.proofs.Common.{◌∙◌, ap, arith}
use Rattle.compile_defines.proofs.DataElements.{values_elements}
use Rattle.compile_defines.proofs.Taking.{making_refused}
use Rattle.compile_defines.specs.Budget.{joint_elements, pattern_elements}
use Rattle.compile_defines.specs.Data.{values_pattern}
use Rattle.compile_defines.specs.Repeating.{choice_pattern}
use Rattle.compile_defines.proofs.data.values_pattern.Goals as goal

pub returns-in_err-take : goal.returns-in_err-take
returns-in_err-take c =
    let whole = values_elements c.args.values.now in
    let many = c.len.ensures in
    making_refused pattern_elements (values_pattern c.args.values.now) c.len.result c.args.budget.now c.args.budget.now _ (λ less. omega arith)
    _ c.in_err-take.ensures.taken c.from_residual.result c.from_residual.ensures.1

pub returns-in_err-take_joint : goal.returns-in_err-take_joint
returns-in_err-take_joint c =
    let whole = values_elements c.args.values.now in
    let joint = ap joint_elements c.len-2.ensures in
    making_refused pattern_elements (values_pattern c.args.values.now) (joint_elements c.len-2.result) c.args.budget.now c.take.new.self _
    (λ less. omega (arith, c.in_ok-take.ensures.taken))
    _ c.in_err-take_joint.ensures.taken c.from_residual-in_err-take_joint.result c.from_residual-in_err-take_joint.ensures.1

pub returns : goal.returns
returns c =
    let whole = values_elements c.args.values.now in
    let joint = ap joint_elements c.len-2.ensures in
    (c.choice_pattern.ensures ∙ ap choice_pattern c.in_ok-each_same.ensures, omega (arith, c.in_ok-take.ensures.taken, c.in_ok-take_joint.ensures.taken))
