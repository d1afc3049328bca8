use Rattle.std.proofs.Common.{codes}
use Rattle.std.proofs.lemmas.Result.{on_ok_weaker}
use Rattle.odd_emit.specs.Contents.{bounds_said, item_markup}
use Rattle.odd_emit.proofs.Put.{one_put}
use Rattle.odd_emit.proofs.attributes.add_one_datatype.Goals as goal

pub returns : goal.returns
returns c =
    on_ok_weaker c.add_end_tag.result
    (one_put c.args.out.now (codes "datatype") (bounds_said c.args.datatype.now.bounds) (item_markup c.args.datatype.now.item) c.begin_tag.new.out c.add_bounds.new.out c.end_start_tag.new.out
    c.add_item.new.out c.add_end_tag.new.out c.in_ok-begin_tag.ensures.ok c.in_ok-add_bounds.ensures c.in_ok-end_start_tag.ensures.ok c.in_ok-add_item.ensures)
    c.add_end_tag.ensures.ok
