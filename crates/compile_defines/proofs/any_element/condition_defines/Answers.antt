use Rattle.std.proofs.Common.{◌<◌, ◌+◌, ◌^◌, [], ◌∷◌, ◌++◌, length, map, take, rules, sym, ap, ◌∙◌, arith}
use Rattle.std.proofs.lemmas.List.{map_more, take_all}
use Rattle.std.proofs.lemmas.List.Sorted.{sum_by-IsPermutation}
use Rattle.std.proofs.lemmas.List.Sums.{sum_by-append, sum_by-cons}
use Rattle.std.specs.Prelude.{sum_by}
use Rattle.compile_defines.proofs.Elements.{mapped_within}
use Rattle.compile_defines.specs.Blocks.{IsConditionDefine}
use Rattle.compile_defines.specs.Compiled.{condition_define}
use Rattle.compile_defines.specs.Elements.{define_elements}
use Rattle.compile_defines.proofs.NamedDefines.{defines_set, within_set}
use Rattle.compile_defines.proofs.PutDefines.{set_refused}
use Rattle.compile_defines.proofs.any_element.condition_defines.Goals as goal

pub loop-condition-preserved : goal.loop-condition-preserved
loop-condition-preserved c =
    let define = condition_define c.args.conditions.now in
    let items = c.as_slice-condition-items.result.now in
    let i = c.loop-condition.condition-index in
    let made = c.in_ok-condition_define.field-0 in
    let put = ap (sum_by define_elements) c.in_ok-push.ensures.ok ∙ sum_by-append define_elements c.loop-condition.defines (made ∷ []) in
    let one = sum_by-cons define_elements made [] in
    let size = ap define_elements c.in_ok-condition_define.ensures.0 in
    record {
      pushed = c.in_ok-push.ensures.ok ∙ (λ j. c.loop-condition.invariant.pushed j ++ c.in_ok-condition_define.ensures.0 j ∷ [])
          ∙ ap (λ x. map define (take i items) ++ define x ∷ []) c.condition-item.is ∙ sym (map_more define items i c.condition-item.result c.loop-condition-test.true);
      taken = omega (arith, c.in_ok-condition_define.ensures.1);
    }

pub returns-in_err-condition_define-clause-taken : goal.returns-in_err-condition_define-clause-taken
returns-in_err-condition_define-clause-taken c =
    let conditions = c.args.conditions.now in
    let define = condition_define conditions in
    let small : length conditions + 1 < 2 ^ 64 = search rules in
    let next = mapped_within define_elements define conditions _ c.loop-condition.condition-index c.condition-item.result c.as_slice-condition-items.ensures c.loop-condition-test.true c.condition-item.is in
    let before = ap (sum_by define_elements) c.loop-condition.invariant.pushed
    ∙ ap (λ items. sum_by define_elements (map define (take c.loop-condition.condition-index items))) c.as_slice-condition-items.ensures in
    set_refused (IsConditionDefine conditions) (define_elements (define c.condition-item.result)) c.args.budget.now c.loop-condition.budget _
    (λ defines set less. omega (arith, within_set conditions c.requires small define_elements defines set))
    _ c.in_err-condition_define.ensures c.from_residual.result c.from_residual.ensures.1

pub returns-clause-set : goal.returns-clause-set
returns-clause-set c =
    let conditions = c.args.conditions.now in
    let items = c.as_slice-condition-items.result.now in
    let define = condition_define conditions in
    let all = c.loop-condition.invariant.pushed ∙ ap (map define) (take_all c.loop-condition.condition-index items c.loop-condition-test.false ∙ c.as_slice-condition-items.ensures) in
    let small : length conditions + 1 < 2 ^ 64 = search rules in
    defines_set conditions c.requires small c.loop-condition.defines _ all c.in_ok-by_name.ensures.0 c.in_ok-by_name.ensures.1

pub returns-clause-taken : goal.returns-clause-taken
returns-clause-taken c = omega (arith, sum_by-IsPermutation define_elements c.loop-condition.defines _ c.in_ok-by_name.ensures.0)
