use Rattle.std.proofs.Common.{◌+◌, ◌∙◌, map, sym, ap, subst, arith}
use Rattle.std.specs.Prelude.{sum_by}
use Rattle.compile_defines.proofs.Collected.{alternate_part, part_in_content, sequence_part}
use Rattle.compile_defines.proofs.Elements.{choice_elements, group_elements, mapped_within}
use Rattle.compile_defines.proofs.Taking.{making_refused}
use Rattle.compile_defines.specs.Budget.{IsMadeWithin, joined_elements, pattern_elements}
use Rattle.compile_defines.specs.Contents.{content_pattern, listed_in}
use Rattle.compile_defines.specs.Parts.{is_never, part_pattern}
use Rattle.compile_defines.specs.Repeating.{choice_pattern, group_pattern}
use Rattle.compile_defines.proofs.contents.+content_pattern.Goals as goal

pub content_pattern-returns-in_err-part : goal.content_pattern-returns-in_err-part
content_pattern-returns-in_err-part t c =
    let library = c.args.library.now in
    let conditions = c.args.conditions.now in
    let members = listed_in c.args.members.now in
    let content = c.args.content.now in
    let some = sym (c.is_never.ensures ∙ ap is_never c.bounds_of-bounds.ensures) ∙ c.if-is_never.false in
    let within = part_in_content library conditions members content some in
    making_refused pattern_elements (content_pattern library conditions members content) (pattern_elements (part_pattern library conditions members content)) c.args.budget.now c.args.budget.now _
    (λ less. omega arith) _ c.in_err-part.ensures c.from_residual.result c.from_residual.ensures.1

pub part_pattern-returns-in-Any : goal.part_pattern-returns-in-Any
part_pattern-returns-in-Any t c =
    let pattern = part_pattern c.args.library.now c.args.conditions.now (listed_in c.args.members.now) in
    subst (λ k. IsMadeWithin pattern_elements (pattern k) c.args.budget.now c.condition_pattern.new.budget c.condition_pattern.result) (sym c.in-Any.is) c.condition_pattern.ensures

pub part_pattern-returns-in_err-patterns-in-Sequence : goal.part_pattern-returns-in_err-patterns-in-Sequence
part_pattern-returns-in_err-patterns-in-Sequence t c =
    let library = c.args.library.now in
    let conditions = c.args.conditions.now in
    let members = listed_in c.args.members.now in
    let patterns = map (content_pattern library conditions members) c.in-Sequence.parts in
    let is = ap (part_pattern library conditions members) c.in-Sequence.is ∙ sequence_part library conditions members c.in-Sequence.parts c.in-Sequence.bounds in
    let whole = ap pattern_elements is ∙ group_elements patterns in
    making_refused pattern_elements (part_pattern library conditions members c.args.content.now) (joined_elements patterns) c.args.budget.now c.args.budget.now _ (λ less. omega arith)
    _ c.in_err-patterns-in-Sequence.ensures c.from_residual.result c.from_residual.ensures.1

pub part_pattern-returns-in_ok-patterns-in-Sequence : goal.part_pattern-returns-in_ok-patterns-in-Sequence
part_pattern-returns-in_ok-patterns-in-Sequence t c =
    let library = c.args.library.now in
    let conditions = c.args.conditions.now in
    let members = listed_in c.args.members.now in
    let patterns = map (content_pattern library conditions members) c.in-Sequence.parts in
    let is = ap (part_pattern library conditions members) c.in-Sequence.is ∙ sequence_part library conditions members c.in-Sequence.parts c.in-Sequence.bounds in
    let whole = ap pattern_elements is ∙ group_elements patterns in
    (c.group_pattern.ensures ∙ ap group_pattern c.in_ok-patterns-in-Sequence.ensures.0 ∙ sym is, c.in_ok-patterns-in-Sequence.ensures.1 ∙ ap (λ n. c.part_patterns.new.budget.left + n) (sym whole))

pub part_pattern-returns-in_err-patterns-in-Alternate : goal.part_pattern-returns-in_err-patterns-in-Alternate
part_pattern-returns-in_err-patterns-in-Alternate t c =
    let library = c.args.library.now in
    let conditions = c.args.conditions.now in
    let members = listed_in c.args.members.now in
    let patterns = map (content_pattern library conditions members) c.in-Alternate.parts in
    let is = ap (part_pattern library conditions members) c.in-Alternate.is ∙ alternate_part library conditions members c.in-Alternate.parts c.in-Alternate.bounds in
    let whole = ap pattern_elements is ∙ choice_elements patterns in
    making_refused pattern_elements (part_pattern library conditions members c.args.content.now) (joined_elements patterns) c.args.budget.now c.args.budget.now _ (λ less. omega arith)
    _ c.in_err-patterns-in-Alternate.ensures c.from_residual-in_err-patterns-in-Alternate.result c.from_residual-in_err-patterns-in-Alternate.ensures.1

pub part_pattern-returns-in_ok-patterns-in-Alternate : goal.part_pattern-returns-in_ok-patterns-in-Alternate
part_pattern-returns-in_ok-patterns-in-Alternate t c =
    let library = c.args.library.now in
    let conditions = c.args.conditions.now in
    let members = listed_in c.args.members.now in
    let patterns = map (content_pattern library conditions members) c.in-Alternate.parts in
    let is = ap (part_pattern library conditions members) c.in-Alternate.is ∙ alternate_part library conditions members c.in-Alternate.parts c.in-Alternate.bounds in
    let whole = ap pattern_elements is ∙ choice_elements patterns in (
      c.choice_pattern.ensures ∙ ap choice_pattern c.in_ok-patterns-in-Alternate.ensures.0 ∙ sym is,
      c.in_ok-patterns-in-Alternate.ensures.1 ∙ ap (λ n. c.part_patterns-in-Alternate.new.budget.left + n) (sym whole),
    )

pub part_patterns-returns-in_err-content_pattern : goal.part_patterns-returns-in_err-content_pattern
part_patterns-returns-in_err-content_pattern t c =
    let pattern = content_pattern c.args.library.now c.args.conditions.now (listed_in c.args.members.now) in
    let within = mapped_within pattern_elements pattern c.args.parts.now _ c.loop-part.part-index c.part-item.result c.as_slice-part-items.ensures c.loop-part-test.true c.part-item.is in
    let before = ap (sum_by pattern_elements) c.loop-part.invariant.pushed in
    making_refused joined_elements (map pattern c.args.parts.now) (pattern_elements (pattern c.part-item.result)) c.args.budget.now c.loop-part.budget _ (λ less. omega arith)
    _ c.in_err-content_pattern.ensures c.from_residual.result c.from_residual.ensures.1
