use Rattle.std.proofs.Common.{◌∷◌, [], codes, map}
use Rattle.std.proofs.lemmas.Result.{on_ok_weaker}
use Rattle.odd_printing.proofs.Shapes.{some_made}
use Rattle.odd_emit.specs.Contents.{facet_markup, type_name}
use Rattle.odd_emit.specs.Saying.{a_text, says}
use Rattle.odd_emit.proofs.Put.{full_put}
use Rattle.odd_emit.proofs.data.add_typed.Goals as goal

pub returns : goal.returns
returns c =
    on_ok_weaker c.add_end_tag.result
    (full_put c.args.out.now (codes "dataRef") (says (codes "name") (a_text (type_name c.args.kind)) ∷ []) (map facet_markup c.args.facets.now) (some_made facet_markup c.args.facets.now c.is_empty.result c.is_empty.ensures.1 c.if-is_empty.false)
    c.begin_tag.new.out c.add_type_name.new.out c.end_start_tag.new.out c.add_facets.new.out c.add_end_tag.new.out c.in_ok-begin_tag.ensures.ok
    c.in_ok-add_type_name.ensures c.in_ok-end_start_tag.ensures.ok
    c.in_ok-add_facets.ensures)
    c.add_end_tag.ensures.ok
