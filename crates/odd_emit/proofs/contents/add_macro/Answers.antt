use Rattle.std.proofs.Common.{◌∷◌, [], codes}
use Rattle.std.proofs.lemmas.Result.{on_ok_weaker}
use Rattle.odd_emit.specs.Contents.{bounds_unless_once, key_said}
use Rattle.odd_emit.proofs.Put.{bare_put, said_put}
use Rattle.odd_emit.proofs.contents.add_macro.Goals as goal

pub returns : goal.returns
returns c =
    on_ok_weaker c.end_empty_tag.result
    (bare_put c.args.out.now (codes "macroRef") (key_said c.args.key.now ∷ bounds_unless_once c.args.bounds) c.begin_tag.new.out c.add_bounds_unless_once.new.out c.end_empty_tag.new.out c.in_ok-begin_tag.ensures.ok
    (said_put c.begin_tag.new.out (key_said c.args.key.now ∷ []) (bounds_unless_once c.args.bounds) c.add_key.new.out c.add_bounds_unless_once.new.out c.in_ok-add_key.ensures c.in_ok-add_bounds_unless_once.ensures))
    c.end_empty_tag.ensures.ok
