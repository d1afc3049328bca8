use Rattle.std.proofs.Common.{◌++◌, codes}
use Rattle.std.proofs.lemmas.Result.{on_ok_weaker}
use Rattle.odd_emit.specs.Contents.{bounds_said, condition_said, prefixes_of}
use Rattle.odd_emit.proofs.Put.{said_put, with_put}
use Rattle.odd_emit.proofs.contents.add_any.Goals as goal

pub returns : goal.returns
returns c =
    let condition = c.args.condition.now in
    on_ok_weaker c.end_empty_tag.result
    (with_put c.args.out.now (codes "anyElement") (prefixes_of condition) (condition_said condition ++ bounds_said c.args.bounds) c.begin_tag.new.out c.add_prefixes.new.out c.add_bounds.new.out
    c.end_empty_tag.new.out c.in_ok-begin_tag.ensures.ok c.in_ok-add_prefixes.ensures
    (said_put c.add_prefixes.new.out (condition_said condition) (bounds_said c.args.bounds) c.add_condition.new.out c.add_bounds.new.out c.in_ok-add_condition.ensures c.in_ok-add_bounds.ensures))
    c.end_empty_tag.ensures.ok
