use Rattle.std.proofs.Common.{◌≡◌, ◌+◌, ◌∙◌, [], length, map, rules, sym, ap, subst, arith}
use Rattle.std.specs.Prelude.{IfOk, sum_by}
use Rattle.rng_grammar.specs.declared.grammar.AttrPart.TheVariants as attributes
use Rattle.rng_grammar.specs.declared.grammar.Body.TheVariants as body
use Rattle.rng_grammar.specs.declared.grammar.NameClass.TheVariants as class
use Rattle.compile_defines.proofs.Taking.{made_after, making_refused}
use Rattle.compile_defines.specs.Budget.{joint_elements}
use Rattle.compile_defines.proofs.NameElements.{nothing_required, parts_in_body, some_left}
use Rattle.compile_defines.specs.Compiled.{condition_body, content_throughout, space_part, spaces_left}
use Rattle.compile_defines.specs.Elements.{body_elements, excepting_elements, part_elements, throughout_elements}
use Rattle.compile_defines.proofs.any_element.condition_body.Goals as goal

pub returns-in_err-take_excepting : goal.returns-in_err-take_excepting
returns-in_err-take_excepting c =
    let condition = c.args.condition.now in
    let name = c.args.name.now in
    let none : condition.require ≡ [] = search rules in
    let whole = (nothing_required name condition none).1 in
    let exceptions : excepting_elements (c.len.result + c.len-then-is_empty.result) ≡ excepting_elements (length condition.spaces + length condition.names) =
    λ i. excepting_elements (c.len.ensures i + c.len-then-is_empty.ensures i) in
    making_refused body_elements (condition_body name condition) (excepting_elements (c.len.result + c.len-then-is_empty.result)) c.args.budget.now c.args.budget.now _ (λ less. omega (arith, exceptions))
    _ c.in_err-take_excepting.ensures c.from_residual.result c.from_residual.ensures.1

pub returns-then-is_empty : goal.returns-then-is_empty
returns-then-is_empty c =
    let condition = c.args.condition.now in
    let name = c.args.name.now in
    let none : condition.require ≡ [] = search rules in
    let whole = nothing_required name condition none in
    let exceptions : excepting_elements (c.len.result + c.len-then-is_empty.result) ≡ excepting_elements (length condition.spaces + length condition.names) =
    λ i. excepting_elements (c.len.ensures i + c.len-then-is_empty.ensures i) in
    let names : class.AnyBut c.in_ok-spaces.spaces c.in_ok-names.names ≡ class.AnyBut condition.spaces condition.names = λ i. class.AnyBut (c.in_ok-spaces.ensures i) (c.in_ok-names.ensures i) in
    let is = ap (λ ns. body.Element ns attributes.AnyAttributes (content_throughout name)) names ∙ sym whole.0 in
    made_after body_elements (condition_body name condition) (excepting_elements (c.len.result + c.len-then-is_empty.result)) throughout_elements c.args.budget.now c.take_excepting.new.budget _
    c.in_ok-take_excepting.ensures (whole.1 ∙ ap (λ n. n + throughout_elements) (sym exceptions)) c.element_throughout.result
    (subst (λ b. IfOk c.element_throughout.result (λ made. made ≡ b)) is c.element_throughout.ensures.made) c.element_throughout.ensures.taken

pub returns-in_err-parts : goal.returns-in_err-parts
returns-in_err-parts c =
    let condition = c.args.condition.now in
    let name = c.args.name.now in
    let some : condition.require ≡ [] → ⊥ = search rules in
    let parts = map (space_part condition) (spaces_left condition) in
    let within = parts_in_body name condition some in
    making_refused body_elements (condition_body name condition) (sum_by part_elements parts) c.args.budget.now c.args.budget.now _ (λ less. omega arith)
    _ c.in_err-parts.ensures c.from_residual-in_err-parts.result c.from_residual-in_err-parts.ensures.1

pub returns-in_err-take_joint : goal.returns-in_err-take_joint
returns-in_err-take_joint c =
    let condition = c.args.condition.now in
    let name = c.args.name.now in
    let some : condition.require ≡ [] → ⊥ = search rules in
    let others : c.in_ok-parts.parts ≡ [] → ⊥ = search rules in
    let whole = (some_left name condition some (λ e. others (c.in_ok-parts.ensures.0 ∙ e))).1 in
    let joint = ap joint_elements (c.len-2.ensures ∙ ap length c.in_ok-parts.ensures.0) in
    making_refused body_elements (condition_body name condition) (joint_elements c.len-2.result) c.args.budget.now c.space_parts.new.budget _ (λ less. omega (arith, c.in_ok-parts.ensures.1))
    _ c.in_err-take_joint.ensures.taken c.from_residual-in_err-take_joint.result c.from_residual-in_err-take_joint.ensures.1

pub returns : goal.returns
returns c =
    let condition = c.args.condition.now in
    let name = c.args.name.now in
    let some : condition.require ≡ [] → ⊥ = search rules in
    let others : c.in_ok-parts.parts ≡ [] → ⊥ = search rules in
    let parts = map (space_part condition) (spaces_left condition) in
    let whole = some_left name condition some (λ e. others (c.in_ok-parts.ensures.0 ∙ e)) in
    let joint = ap joint_elements (c.len-2.ensures ∙ ap length c.in_ok-parts.ensures.0) in
    let is = ap (λ ps. body.Element (class.Within ps) attributes.AnyAttributes (content_throughout name)) c.in_ok-parts.ensures.0 ∙ sym whole.0 in
    made_after body_elements (condition_body name condition) (sum_by part_elements parts + joint_elements (length parts)) throughout_elements c.args.budget.now c.take_joint.new.self _
    (omega (arith, c.in_ok-parts.ensures.1, c.in_ok-take_joint.ensures.taken)) whole.1 c.element_throughout-2.result
    (subst (λ b. IfOk c.element_throughout-2.result (λ made. made ≡ b)) is c.element_throughout-2.ensures.made) c.element_throughout-2.ensures.taken
