use Rattle.std.proofs.Common.{◌∷◌, [], codes}
use Rattle.std.proofs.lemmas.Result.{on_ok_weaker}
use Rattle.odd_emit.specs.Saying.{a_text, says}
use Rattle.odd_emit.proofs.Put.{bare_put}
use Rattle.odd_emit.proofs.data.add_value.Goals as goal

pub returns : goal.returns
returns c =
    on_ok_weaker c.end_empty_tag.result
    (bare_put c.args.out.now (codes "valItem") (says (codes "ident") (a_text c.args.value.now) ∷ []) c.begin_tag.new.out c.add_ident.new.out c.end_empty_tag.new.out c.in_ok-begin_tag.ensures.ok
    c.in_ok-add_ident.ensures)
    c.end_empty_tag.ensures.ok
