use Rattle.std.proofs.Common.{rules, sym, ap, ◌∙◌, arith}
use Rattle.std.proofs.lemmas.Cmp.{nat_list_cmp_total}
use Rattle.std.proofs.lemmas.List.Sorted.{IsPartitionPoint-from_clause, searchable_from_sorted}
use Rattle.std.specs.List.{filter}
use Rattle.std.specs.Cmp.Lexicographic.{texts_ties}
use Rattle.std.specs.Ordering.{is_le, is_lt}
use Rattle.odd_text.specs.Text.{text_cmp}
use Rattle.odd_text.specs.declared.name.Name.{Name}
use Rattle.compile_defines.proofs.BySpace.{at_most_parted, ends_rise, equal_between, less_parted}
use Rattle.compile_defines.proofs.any_element.run_of.Goals as goal

pub slice_bounds-result-count : goal.slice_bounds-result-count
slice_bounds-result-count c =
    let names = c.args.by_space.now in
    let space = c.args.space.now in
    let rank = λ (n : Name). text_cmp n.ns space in
    let up = searchable_from_sorted nat_list_cmp_total (λ (n : Name). n.ns) names space c.requires in
    let p = IsPartitionPoint-from_clause (λ n. is_lt (rank n)) _ _ c.partition_point-first.ensures.partitioned (less_parted rank names up) (λ a r q k. search rules) in
    let q = IsPartitionPoint-from_clause (λ n. is_le (rank n)) _ _ c.partition_point-end.ensures.partitioned (at_most_parted rank names up) (λ a r q k. search rules) in
    ends_rise rank names _ _ c.partition_point-first.ensures.bound p q

pub slice_bounds-result-start : goal.slice_bounds-result-start
slice_bounds-result-start c = slice_bounds-result-count c

pub returns : goal.returns
returns c =
    let names = c.args.by_space.now in
    let space = c.args.space.now in
    let rank = λ (n : Name). text_cmp n.ns space in
    let up = searchable_from_sorted nat_list_cmp_total (λ (n : Name). n.ns) names space c.requires in
    let p = IsPartitionPoint-from_clause (λ n. is_lt (rank n)) _ _ c.partition_point-first.ensures.partitioned (less_parted rank names up) (λ a r q k. search rules) in
    let q = IsPartitionPoint-from_clause (λ n. is_le (rank n)) _ _ c.partition_point-end.ensures.partitioned (at_most_parted rank names up) (λ a r q k. search rules) in
    let rise = ends_rise rank names _ _ c.partition_point-first.ensures.bound p q in
    sym (equal_between rank names c.partition_point-first.result _ c.partition_point-end.result (omega arith) c.partition_point-end.ensures.bound p q)
    ∙ ap (λ t. filter t names) (λ i (n : Name). sym (texts_ties n.ns space) i)
