use Rattle.std.proofs.Common.{[], ◌∷◌, ◌++◌, codes, map, ap, ◌∙◌}
use Rattle.std.proofs.lemmas.Result.{on_ok_weaker}
use Rattle.odd_tree.specs.Markup.{attributes_printed}
use Rattle.odd_printing.proofs.Shapes.{full, some_made}
use Rattle.rng_emit.specs.Grammar.{param_markup, type_name}
use Rattle.rng_emit.proofs.values.add_data.Goals as goal

pub returns : goal.returns
returns c =
    let o = c.args.out.now in
    let facets = c.args.facets.now in
    on_ok_weaker c.add_end_tag.result
    (full o (codes "data") ((codes "type", type_name c.args.kind) ∷ []) (map param_markup facets) (some_made param_markup facets c.is_empty.result c.is_empty.ensures.1 c.if-is_empty.false)
    c.begin_tag_with.new.out c.end_start_tag.new.out c.add_params.new.out c.add_end_tag.new.out
    (c.in_ok-begin_tag_with.ensures ∙ ap (λ v. o ++ (codes "<" ++ codes "data" ++ attributes_printed ((codes "type", v) ∷ []))) c.type_name.ensures)
    c.in_ok-end_start_tag.ensures.ok c.in_ok-add_params.ensures)
    c.add_end_tag.ensures.ok
