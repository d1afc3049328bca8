use Rattle.std.proofs.Common.{◌∷◌, [], codes}
use Rattle.std.proofs.lemmas.Result.{on_ok_weaker}
use Rattle.odd_emit.specs.Attributes.{ident_said}
use Rattle.odd_emit.specs.Contents.{mode_said}
use Rattle.odd_emit.proofs.Put.{bare_put, said_put}
use Rattle.odd_emit.proofs.attributes.add_deletion.Goals as goal

pub returns : goal.returns
returns c =
    on_ok_weaker c.end_empty_tag.result
    (bare_put c.args.out.now (codes "attDef") (ident_said c.args.ident.now ∷ mode_said (codes "delete") ∷ []) c.begin_tag.new.out c.add_mode.new.out c.end_empty_tag.new.out c.in_ok-begin_tag.ensures.ok
    (said_put c.begin_tag.new.out (ident_said c.args.ident.now ∷ []) (mode_said (codes "delete") ∷ []) c.add_ident.new.out c.add_mode.new.out c.in_ok-add_ident.ensures c.in_ok-add_mode.ensures))
    c.end_empty_tag.ensures.ok
