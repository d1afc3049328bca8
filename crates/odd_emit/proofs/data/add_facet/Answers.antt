use Rattle.std.proofs.Common.{◌∷◌, [], codes}
use Rattle.std.proofs.lemmas.Result.{on_ok_weaker}
use Rattle.rng_emit.specs.Grammar.{facet_name}
use Rattle.odd_emit.specs.Saying.{a_text, says}
use Rattle.odd_emit.proofs.Put.{bare_put}
use Rattle.odd_emit.proofs.data.add_facet.Goals as goal

pub returns : goal.returns
returns c =
    on_ok_weaker c.end_empty_tag.result
    (bare_put c.args.out.now (codes "dataFacet") (says (codes "name") (a_text (facet_name c.args.facet.now.name)) ∷ says (codes "value") (a_text c.args.facet.now.value) ∷ []) c.begin_tag.new.out c.add_facet_said.new.out c.end_empty_tag.new.out c.in_ok-begin_tag.ensures.ok
    c.in_ok-add_facet_said.ensures)
    c.end_empty_tag.ensures.ok
