use Rattle.std.proofs.Common.{◌≡◌, ◌++◌, ◌∙◌, length, replicate, ap, arith}
use Rattle.std.specs.Prelude.{sum_by}
use Rattle.compile_defines.proofs.Elements.{halves_elements}
use Rattle.compile_defines.proofs.Taking.{making_refused}
use Rattle.compile_defines.specs.Budget.{joint_elements, pattern_elements}
use Rattle.compile_defines.specs.Repeating.{further, group_pattern}
use Rattle.compile_defines.proofs.repeating.several.Goals as goal

pub returns-in_err-add_copies : goal.returns-in_err-add_copies
returns-in_err-add_copies c =
    let copies = replicate c.args.min c.args.part in
    let rest = further c.args.part c.args.min c.args.max in
    let whole = halves_elements copies rest in
    making_refused pattern_elements (group_pattern (copies ++ rest)) (sum_by pattern_elements copies) c.args.budget.now c.args.budget.now _ (λ less. omega arith)
    _ c.in_err-add_copies.ensures.taken c.from_residual.result c.from_residual.ensures.1

pub returns-in_err-add_further : goal.returns-in_err-add_further
returns-in_err-add_further c =
    let copies = replicate c.args.min c.args.part in
    let rest = further c.args.part c.args.min c.args.max in
    let whole = halves_elements copies rest in
    making_refused pattern_elements (group_pattern (copies ++ rest)) (sum_by pattern_elements rest) c.args.budget.now c.add_copies.new.budget _ (λ less. omega (arith, c.in_ok-add_copies.ensures.taken))
    _ c.in_err-add_further.ensures.taken c.from_residual-in_err-add_further.result c.from_residual-in_err-add_further.ensures.1

pub returns-in_err-take_joint : goal.returns-in_err-take_joint
returns-in_err-take_joint c =
    let copies = replicate c.args.min c.args.part in
    let rest = further c.args.part c.args.min c.args.max in
    let whole = halves_elements copies rest in
    let all : c.add_further.new.parts ≡ copies ++ rest = c.in_ok-add_further.ensures.pushed ∙ ap (λ ps. ps ++ rest) (c.in_ok-add_copies.ensures.pushed ∙ ap (λ ps. ps ++ copies) c.new-parts.ensures) in
    let joint = ap joint_elements (c.len.ensures ∙ ap length all) in
    making_refused pattern_elements (group_pattern (copies ++ rest)) (joint_elements c.len.result) c.args.budget.now c.add_further.new.budget _
    (λ less. omega (arith, c.in_ok-add_copies.ensures.taken, c.in_ok-add_further.ensures.taken))
    _ c.in_err-take_joint.ensures.taken c.from_residual-in_err-take_joint.result c.from_residual-in_err-take_joint.ensures.1

pub returns : goal.returns
returns c =
    let copies = replicate c.args.min c.args.part in
    let rest = further c.args.part c.args.min c.args.max in
    let whole = halves_elements copies rest in
    let all : c.add_further.new.parts ≡ copies ++ rest = c.in_ok-add_further.ensures.pushed ∙ ap (λ ps. ps ++ rest) (c.in_ok-add_copies.ensures.pushed ∙ ap (λ ps. ps ++ copies) c.new-parts.ensures) in
    let joint = ap joint_elements (c.len.ensures ∙ ap length all) in
    (c.group_pattern.ensures ∙ ap group_pattern all, omega (arith, c.in_ok-add_copies.ensures.taken, c.in_ok-add_further.ensures.taken, c.in_ok-take_joint.ensures.taken))
