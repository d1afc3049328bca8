use Rattle.std.proofs.Common.{◌∷◌, [], codes, map}
use Rattle.std.proofs.lemmas.Result.{on_ok_weaker}
use Rattle.odd_printing.proofs.Shapes.{some_made}
use Rattle.odd_forms.specs.Names.{tei_namespace}
use Rattle.odd_emit.specs.Attributes.{ident_said}
use Rattle.odd_emit.specs.Components.{entry_markup}
use Rattle.odd_emit.specs.Saying.{a_text, says, some_names}
use Rattle.odd_emit.proofs.Put.{full_put}
use Rattle.odd_emit.proofs.printing.add_schema.Goals as goal

pub returns : goal.returns
returns c =
    on_ok_weaker c.add_end_tag.result
    (full_put c.args.out.now (codes "schemaSpec") (says (codes "xmlns") (a_text tei_namespace) ∷ ident_said c.args.library.now.ident ∷ says (codes "start") (some_names c.args.library.now.start) ∷ []) (map entry_markup c.args.library.now.parts) (some_made entry_markup c.args.library.now.parts c.has_none.result c.has_none.ensures.1 c.if-has_none.false)
    c.begin_tag.new.out c.add_schema_said.new.out c.end_start_tag.new.out c.add_components.new.out c.add_end_tag.new.out c.in_ok-begin_tag.ensures.ok
    c.in_ok-add_schema_said.ensures c.in_ok-end_start_tag.ensures.ok
    c.in_ok-add_components.ensures)
    c.add_end_tag.ensures.ok
