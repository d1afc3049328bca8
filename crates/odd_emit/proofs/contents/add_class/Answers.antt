use Rattle.std.proofs.Common.{◌∷◌, ◌++◌, [], codes}
use Rattle.std.proofs.lemmas.Result.{on_ok_weaker}
use Rattle.odd_emit.specs.Contents.{bounds_said, key_said, pick_said}
use Rattle.odd_emit.proofs.Put.{bare_put, said_put}
use Rattle.odd_emit.proofs.contents.add_class.Goals as goal

pub returns : goal.returns
returns c =
    on_ok_weaker c.end_empty_tag.result
    (bare_put c.args.out.now (codes "classRef") (key_said c.args.key.now ∷ pick_said c.args.pick.now ++ bounds_said c.args.bounds) c.begin_tag.new.out c.add_bounds.new.out c.end_empty_tag.new.out c.in_ok-begin_tag.ensures.ok
    (said_put c.begin_tag.new.out (key_said c.args.key.now ∷ [] ++ pick_said c.args.pick.now) (bounds_said c.args.bounds) c.add_pick.new.out c.add_bounds.new.out (said_put c.begin_tag.new.out (key_said c.args.key.now ∷ []) (pick_said c.args.pick.now) c.add_key.new.out c.add_pick.new.out c.in_ok-add_key.ensures c.in_ok-add_pick.ensures) c.in_ok-add_bounds.ensures))
    c.end_empty_tag.ensures.ok
