use Rattle.std.proofs.lemmas.Result.{on_ok_weaker}
use Rattle.rng_emit.specs.Grammar.{attributes_markup, class_markup, name_pairs, pattern_markup}
use Rattle.rng_emit.proofs.Shapes.{element_put}
use Rattle.rng_emit.proofs.bodies.add_element.Goals as goal

pub returns : goal.returns
returns c =
    on_ok_weaker c.add_end_tag.result
    (element_put c.args.out.now (name_pairs c.args.names.now) (class_markup c.args.names.now) (attributes_markup c.args.attrs.now) (pattern_markup c.args.content.now)
    c.begin_element.new.out c.end_start_tag.new.out c.add_names.new.out c.add_attributes.new.out c.add_pattern.new.out c.add_end_tag.new.out
    c.in_ok-begin_element.ensures c.in_ok-end_start_tag.ensures.ok c.in_ok-add_names.ensures c.in_ok-add_attributes.ensures c.in_ok-add_pattern.ensures)
    c.add_end_tag.ensures.ok
