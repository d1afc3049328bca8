use Rattle.std.proofs.Common.{[], ◌∷◌, ◌++◌, codes, map, ap, ◌∙◌}
use Rattle.std.proofs.lemmas.Result.{on_ok_weaker}
use Rattle.odd_tree.specs.Markup.{attributes_printed}
use Rattle.odd_printing.proofs.Shapes.{some_made}
use Rattle.rng_emit.specs.Grammar.{name_markup}
use Rattle.rng_emit.proofs.Shapes.{around_except}
use Rattle.rng_emit.proofs.names.add_space_within.Goals as goal

pub returns : goal.returns
returns c =
    let o = c.args.out.now in
    let part = c.args.part.now in
    on_ok_weaker c.add_end_tag-2.result
    (around_except o (codes "nsName") ((codes "ns", part.ns) ∷ []) (map name_markup part.but) (some_made name_markup part.but c.is_empty.result c.is_empty.ensures.1 c.if-is_empty.false)
    c.begin_tag_with.new.out c.end_start_tag.new.out c.add_start_tag.new.out c.add_excepted_names.new.out c.add_end_tag.new.out c.add_end_tag-2.new.out
    (c.in_ok-begin_tag_with.ensures ∙ ap (λ v. o ++ (codes "<" ++ codes "nsName" ++ attributes_printed ((codes "ns", v) ∷ []))) c.as_str.ensures)
    c.in_ok-end_start_tag.ensures.ok c.in_ok-add_start_tag.ensures c.in_ok-add_excepted_names.ensures c.in_ok-add_end_tag.ensures.ok)
    c.add_end_tag-2.ensures.ok
