use Rattle.std.proofs.Common.{[], append-nil, codes, sym}
use Rattle.std.proofs.lemmas.Result.{on_ok_weaker}
use Rattle.odd_emit.specs.Contents.{part_markup}
use Rattle.odd_emit.proofs.Put.{one_put}
use Rattle.odd_emit.proofs.contents.add_content.Goals as goal

pub returns : goal.returns
returns c =
    on_ok_weaker c.add_end_tag.result
    (one_put c.args.out.now (codes "content") [] (part_markup c.args.content.now) c.begin_tag.new.out c.begin_tag.new.out c.end_start_tag.new.out c.add_part.new.out c.add_end_tag.new.out
    c.in_ok-begin_tag.ensures.ok (sym (append-nil c.begin_tag.new.out)) c.in_ok-end_start_tag.ensures.ok c.in_ok-add_part.ensures)
    c.add_end_tag.ensures.ok
