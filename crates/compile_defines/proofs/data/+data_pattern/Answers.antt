use Rattle.std.proofs.Common.{◌+◌, ◌∙◌, map, sym, ap, arith}
use Rattle.std.specs.Prelude.{sum_by}
use Rattle.compile_defines.proofs.Collected.{alternate_data}
use Rattle.compile_defines.proofs.Elements.{choice_elements, mapped_within}
use Rattle.compile_defines.proofs.Taking.{making_refused}
use Rattle.compile_defines.specs.Budget.{joined_elements, pattern_elements}
use Rattle.compile_defines.specs.Data.{data_pattern}
use Rattle.compile_defines.specs.Repeating.{choice_pattern}
use Rattle.compile_defines.proofs.data.+data_pattern.Goals as goal

pub data_pattern-returns-in_err-data_patterns-in-Alternate : goal.data_pattern-returns-in_err-data_patterns-in-Alternate
data_pattern-returns-in_err-data_patterns-in-Alternate t c =
    let patterns = map data_pattern c.in-Alternate.parts in
    let is = ap data_pattern c.in-Alternate.is ∙ alternate_data c.in-Alternate.parts c.in-Alternate.bounds in
    let whole = ap pattern_elements is ∙ choice_elements patterns in
    making_refused pattern_elements (data_pattern c.args.content.now) (joined_elements patterns) c.args.budget.now c.args.budget.now _ (λ less. omega arith)
    _ c.in_err-data_patterns-in-Alternate.ensures c.from_residual.result c.from_residual.ensures.1

pub data_pattern-returns-in_ok-data_patterns-in-Alternate : goal.data_pattern-returns-in_ok-data_patterns-in-Alternate
data_pattern-returns-in_ok-data_patterns-in-Alternate t c =
    let patterns = map data_pattern c.in-Alternate.parts in
    let is = ap data_pattern c.in-Alternate.is ∙ alternate_data c.in-Alternate.parts c.in-Alternate.bounds in
    let whole = ap pattern_elements is ∙ choice_elements patterns in
    (c.choice_pattern.ensures ∙ ap choice_pattern c.in_ok-data_patterns-in-Alternate.ensures.0 ∙ sym is, c.in_ok-data_patterns-in-Alternate.ensures.1 ∙ ap (λ n. c.data_patterns.new.budget.left + n) (sym whole))

pub data_patterns-returns-in_err-data_pattern : goal.data_patterns-returns-in_err-data_pattern
data_patterns-returns-in_err-data_pattern t c =
    let within = mapped_within pattern_elements data_pattern c.args.parts.now _ c.loop-part.part-index c.part-item.result c.as_slice-part-items.ensures c.loop-part-test.true c.part-item.is in
    let before = ap (sum_by pattern_elements) c.loop-part.invariant.pushed in
    making_refused joined_elements (map data_pattern c.args.parts.now) (pattern_elements (data_pattern c.part-item.result)) c.args.budget.now c.loop-part.budget _ (λ less. omega arith)
    _ c.in_err-data_pattern.ensures c.from_residual.result c.from_residual.ensures.1
