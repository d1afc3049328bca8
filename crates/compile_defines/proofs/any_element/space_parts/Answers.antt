use Rattle.std.proofs.Common.{◌≡◌, ◌∙◌, [], ◌∷◌, ◌++◌, map, take, sym, ap, arith}
use Rattle.std.proofs.lemmas.List.{map_more}
use Rattle.std.proofs.lemmas.List.Sums.{sum_by-append, sum_by-cons}
use Rattle.std.specs.List.{filter}
use Rattle.std.specs.Prelude.{sum_by}
use Rattle.odd_text.specs.Same.{is_same}
use Rattle.rng_grammar.specs.declared.grammar.NsPart.{NsPart}
use Rattle.compile_defines.proofs.Elements.{mapped_within}
use Rattle.compile_defines.proofs.Taking.{making_refused}
use Rattle.compile_defines.specs.Compiled.{space_part, spaces_left}
use Rattle.compile_defines.specs.Elements.{part_elements}
use Rattle.compile_defines.proofs.any_element.space_parts.Goals as goal

pub returns-in_err-space_part : goal.returns-in_err-space_part
returns-in_err-space_part c =
    let part = space_part c.args.condition.now in
    let space = c.space-item.result in
    let spaces = spaces_left c.args.condition.now in
    let same = ap (filter (λ n. is_same n.ns space)) c.deref.ensures.value ∙ c.in_ok-by_space.ensures.same space in
    let made : NsPart = record { ns = space; but = filter (λ n. is_same n.ns space) c.deref.result.now } in
    let is : made ≡ part space = λ i. record { ns = space; but = same i } in
    let one = ap part_elements is in
    let within = mapped_within part_elements part spaces _ c.loop-space.space-index space (c.as_slice-space-items.ensures ∙ c.in_ok-spaces.ensures) c.loop-space-test.true c.space-item.is in
    let before = ap (λ ps. sum_by part_elements ps) c.loop-space.invariant.pushed ∙ ap (λ items. sum_by part_elements (map part (take c.loop-space.space-index items))) (c.as_slice-space-items.ensures ∙ c.in_ok-spaces.ensures) in
    making_refused (sum_by part_elements) (map part spaces) (part_elements made) c.args.budget.now c.loop-space.budget _ (λ less. omega arith)
    _ c.in_err-space_part.ensures c.from_residual-in_err-space_part.result c.from_residual-in_err-space_part.ensures.1

pub loop-space-preserved : goal.loop-space-preserved
loop-space-preserved c =
    let part = space_part c.args.condition.now in
    let space = c.space-item.result in
    let items = c.as_slice-space-items.result.now in
    let i = c.loop-space.space-index in
    let same = ap (filter (λ n. is_same n.ns space)) c.deref.ensures.value ∙ c.in_ok-by_space.ensures.same space in
    let made = c.in_ok-space_part.field-0 in
    let is : made ≡ part space = c.in_ok-space_part.ensures.0 ∙ (λ i. record { ns = space; but = same i }) in
    let pushed = c.in_ok-push.ensures.ok ∙ (λ j. c.loop-space.invariant.pushed j ++ is j ∷ []) in
    let put = ap (sum_by part_elements) c.in_ok-push.ensures.ok ∙ sum_by-append part_elements c.loop-space.parts (made ∷ []) in
    let one = sum_by-cons part_elements made [] in
    let size = ap part_elements c.in_ok-space_part.ensures.0 in
    record {
      pushed = pushed ∙ ap (λ x. map part (take i items) ++ part x ∷ []) c.space-item.is ∙ sym (map_more part items i space c.loop-space-test.true);
      taken = omega (arith, c.in_ok-space_part.ensures.1);
    }
