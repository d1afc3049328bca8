use Rattle.std.proofs.Common.{◌∷◌, [], codes}
use Rattle.std.proofs.lemmas.Result.{on_ok_weaker}
use Rattle.odd_emit.specs.Attributes.{ident_said}
use Rattle.odd_emit.specs.Components.{module_said}
use Rattle.odd_emit.specs.Contents.{content_markup, mode_said}
use Rattle.odd_emit.proofs.Put.{one_put}
use Rattle.odd_emit.proofs.components.add_other.Goals as goal

pub returns : goal.returns
returns c =
    on_ok_weaker c.add_end_tag.result
    (one_put c.args.out.now c.args.name.now (ident_said c.args.ident.now ∷ module_said c.args.part.now.«module» ∷ mode_said (codes "add") ∷ []) (content_markup c.args.part.now.content)
    c.begin_tag.new.out c.add_declared.new.out c.end_start_tag.new.out c.add_content.new.out c.add_end_tag.new.out c.in_ok-begin_tag.ensures.ok c.in_ok-add_declared.ensures
    c.in_ok-end_start_tag.ensures.ok c.in_ok-add_content.ensures)
    c.add_end_tag.ensures.ok
