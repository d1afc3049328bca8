use Rattle.std.proofs.Common.{◌+◌, rules, sym, ap, subst, ◌∙◌}
use Rattle.std.specs.Prelude.{count_by}
use Rattle.std.specs.Ordering.{is_lt}
use Rattle.std.proofs.lemmas.List.Sorted.{IsPartitionPoint-from_clause}
use Rattle.odd_text.specs.Sorted.{AreRising}
use Rattle.odd_content.specs.ConditionOrder.{condition_cmp, condition_total}
use Rattle.compile_defines.proofs.Collected.{partition_counted, rising_parted}
use Rattle.compile_defines.proofs.contents.number_of.Goals as goal

pub returns : goal.returns
returns c =
    let condition = c.args.condition.now in
    let items = c.as_slice-conditions.result.now in
    let rising = subst (λ xs. AreRising condition_cmp xs) (sym c.as_slice-conditions.ensures) c.requires in
    let parted = rising_parted condition_total condition items rising in
    let point = IsPartitionPoint-from_clause (λ other. is_lt (condition_cmp other condition)) _ _ c.partition_point.ensures.partitioned parted (λ a r q k. search rules) in
    let counted = partition_counted (λ other. is_lt (condition_cmp other condition)) items c.partition_point.result c.partition_point.ensures.bound point in
    ap (λ n. n + 1) (sym counted ∙ ap (λ xs. count_by (λ other. is_lt (condition_cmp other condition)) xs) c.as_slice-conditions.ensures)
