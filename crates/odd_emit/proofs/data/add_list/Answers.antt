use Rattle.std.proofs.Common.{◌∷◌, [], codes, map}
use Rattle.std.proofs.lemmas.Result.{on_ok_weaker}
use Rattle.odd_printing.proofs.Shapes.{some_made}
use Rattle.odd_emit.specs.Contents.{mode_said, type_said, value_markup}
use Rattle.odd_emit.proofs.Put.{full_put, said_put}
use Rattle.odd_emit.proofs.data.add_list.Goals as goal

pub returns : goal.returns
returns c =
    on_ok_weaker c.add_end_tag.result
    (full_put c.args.out.now (codes "valList") (type_said c.args.list.now.kind ∷ mode_said (codes "add") ∷ []) (map value_markup c.args.list.now.values) (some_made value_markup c.args.list.now.values c.is_empty.result c.is_empty.ensures.1 c.if-is_empty.false)
    c.begin_tag.new.out c.add_mode.new.out c.end_start_tag.new.out c.add_values.new.out c.add_end_tag.new.out c.in_ok-begin_tag.ensures.ok
    (said_put c.begin_tag.new.out (type_said c.args.list.now.kind ∷ []) (mode_said (codes "add") ∷ []) c.add_type.new.out c.add_mode.new.out c.in_ok-add_type.ensures c.in_ok-add_mode.ensures) c.in_ok-end_start_tag.ensures.ok
    c.in_ok-add_values.ensures)
    c.add_end_tag.ensures.ok
