use Rattle.std.proofs.Common.{◌∷◌, [], codes, map}
use Rattle.std.proofs.lemmas.Result.{on_ok_weaker}
use Rattle.odd_printing.proofs.Shapes.{some_made}
use Rattle.odd_emit.specs.Attributes.{kind_value, mark_markup}
use Rattle.odd_emit.specs.Contents.{mode_said}
use Rattle.odd_emit.specs.Saying.{says_if}
use Rattle.odd_emit.proofs.Put.{full_put, said_put}
use Rattle.odd_emit.proofs.lists.add_list_change.Goals as goal

pub returns : goal.returns
returns c =
    on_ok_weaker c.add_end_tag.result
    (full_put c.args.out.now (codes "valList") (says_if (codes "type") (kind_value c.args.kind) ∷ mode_said (codes "change") ∷ []) (map mark_markup c.args.marks.now) (some_made mark_markup c.args.marks.now c.is_empty.result c.is_empty.ensures.1 c.if-is_empty.false)
    c.begin_tag.new.out c.add_mode.new.out c.end_start_tag.new.out c.add_marks.new.out c.add_end_tag.new.out c.in_ok-begin_tag.ensures.ok
    (said_put c.begin_tag.new.out (says_if (codes "type") (kind_value c.args.kind) ∷ []) (mode_said (codes "change") ∷ []) c.add_type_if.new.out c.add_mode.new.out c.in_ok-add_type_if.ensures c.in_ok-add_mode.ensures) c.in_ok-end_start_tag.ensures.ok
    c.in_ok-add_marks.ensures)
    c.add_end_tag.ensures.ok
