use Rattle.std.proofs.Common.{◌++◌, map, ap, sym, ◌∙◌}
use Rattle.std.proofs.lemmas.Result.{on_ok_weaker}
use Rattle.odd_tree.specs.Markup.{printed}
use Rattle.odd_printing.proofs.Shapes.{full_plain, printed_more, some_made}
use Rattle.rng_emit.specs.Grammar.{pattern_markup}
use Rattle.rng_emit.proofs.Shapes.{not_allowed_is}
use Rattle.rng_emit.proofs.patterns.+patterns.Goals as goal

pub add_pattern-returns-in-NotAllowed : goal.add_pattern-returns-in-NotAllowed
add_pattern-returns-in-NotAllowed t c =
    on_ok_weaker c.add_empty_tag-in-NotAllowed.result
    (λ e. e ∙ ap (λ m. c.args.out.now ++ printed m) (sym (ap pattern_markup c.in-NotAllowed.is ∙ not_allowed_is)))
    c.add_empty_tag-in-NotAllowed.ensures

pub add_parts-returns : goal.add_parts-returns
add_parts-returns t c =
    on_ok_weaker c.add_end_tag.result
    (full_plain c.args.out.now c.args.tag.now (map pattern_markup c.args.parts.now)
    (some_made pattern_markup c.args.parts.now c.is_empty.result c.is_empty.ensures.1 c.if-is_empty.false)
    c.add_start_tag.new.out c.add_patterns.new.out c.add_end_tag.new.out c.in_ok-add_start_tag.ensures c.in_ok-add_patterns.ensures)
    c.add_end_tag.ensures.ok

pub add_patterns-loop-pattern-preserved : goal.add_patterns-loop-pattern-preserved
add_patterns-loop-pattern-preserved t c =
    printed_more pattern_markup c.args.patterns.now _ c.loop-pattern.pattern-index c.pattern-item.result c.args.out.now _ _ c.as_slice-pattern-items.ensures c.loop-pattern-test.true
    c.pattern-item.is c.loop-pattern.invariant c.in_ok-add_pattern.ensures
