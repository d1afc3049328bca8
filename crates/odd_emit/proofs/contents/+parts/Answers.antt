use Rattle.std.proofs.Common.{◌++◌, map, ap, sym, ◌∙◌}
use Rattle.std.proofs.lemmas.Result.{on_ok_weaker}
use Rattle.odd_tree.specs.Markup.{printed}
use Rattle.odd_printing.proofs.Shapes.{printed_more, some_made}
use Rattle.odd_emit.specs.Contents.{bounds_said, part_markup}
use Rattle.odd_emit.proofs.Put.{full_put}
use Rattle.odd_emit.proofs.Rows.{alternate_is, sequence_is}
use Rattle.odd_emit.proofs.contents.+parts.Goals as goal

pub add_part-returns-in-Sequence : goal.add_part-returns-in-Sequence
add_part-returns-in-Sequence t c =
    on_ok_weaker c.add_level.result (λ e. e ∙ ap (λ m. c.args.out.now ++ printed m) (sym (ap part_markup c.in-Sequence.is ∙ sequence_is c.in-Sequence.parts c.in-Sequence.bounds))) c.add_level.ensures

pub add_part-returns-in-Alternate : goal.add_part-returns-in-Alternate
add_part-returns-in-Alternate t c =
    on_ok_weaker c.add_level-in-Alternate.result
    (λ e. e ∙ ap (λ m. c.args.out.now ++ printed m) (sym (ap part_markup c.in-Alternate.is ∙ alternate_is c.in-Alternate.parts c.in-Alternate.bounds))) c.add_level-in-Alternate.ensures

pub add_level-returns : goal.add_level-returns
add_level-returns t c =
    on_ok_weaker c.add_end_tag.result
    (full_put c.args.out.now c.args.tag.now (bounds_said c.args.bounds) (map part_markup c.args.parts.now)
    (some_made part_markup c.args.parts.now c.is_empty.result c.is_empty.ensures.1 c.if-is_empty.false)
    c.begin_tag.new.out c.add_bounds.new.out c.end_start_tag.new.out c.add_parts.new.out c.add_end_tag.new.out c.in_ok-begin_tag.ensures.ok c.in_ok-add_bounds.ensures
    c.in_ok-end_start_tag.ensures.ok c.in_ok-add_parts.ensures)
    c.add_end_tag.ensures.ok

pub add_parts-loop-part-preserved : goal.add_parts-loop-part-preserved
add_parts-loop-part-preserved t c =
    printed_more part_markup c.args.parts.now _ c.loop-part.part-index c.part-item.result c.args.out.now _ _ c.as_slice-part-items.ensures c.loop-part-test.true
    c.part-item.is c.loop-part.invariant c.in_ok-add_part.ensures
