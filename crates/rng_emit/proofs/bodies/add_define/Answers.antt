use Rattle.std.proofs.Common.{[], ◌∷◌, ◌++◌, codes, ap, ◌∙◌}
use Rattle.std.proofs.lemmas.Result.{on_ok_weaker}
use Rattle.odd_tree.specs.Markup.{attributes_printed}
use Rattle.odd_printing.proofs.Shapes.{full_of_one}
use Rattle.rng_emit.specs.Grammar.{body_markup}
use Rattle.rng_emit.proofs.bodies.add_define.Goals as goal

pub returns : goal.returns
returns c =
    let o = c.args.out.now in
    let define = c.args.define.now in
    on_ok_weaker c.add_end_tag.result
    (full_of_one o (codes "define") ((codes "name", define.name) ∷ []) (body_markup define.body) c.begin_tag_with.new.out c.end_start_tag.new.out c.add_body.new.out c.add_end_tag.new.out
    (c.in_ok-begin_tag_with.ensures ∙ ap (λ v. o ++ (codes "<" ++ codes "define" ++ attributes_printed ((codes "name", v) ∷ []))) c.as_str.ensures)
    c.in_ok-end_start_tag.ensures.ok c.in_ok-add_body.ensures)
    c.add_end_tag.ensures.ok
