use Rattle.std.proofs.Common.{ap, map, subst, ◌∙◌}
use Rattle.odd_decls.specs.FileItems.{AreIdsOf}
use Rattle.odd_decls.proofs.file_items.groups_of.Goals as goal

pub returns-clause-ids : goal.returns-clause-ids
returns-clause-ids c =
    let trees = ap (map (λ t. t.now)) c.as_slice-2.ensures.value ∙ c.in_ok-trees.ensures ∙ ap (map (λ k. k.tree.now)) c.as_slice.ensures.value in
    subst (λ ts. AreIdsOf ts c.in_ok-ids.ids) trees record { first = c.in_ok-ids.ensures.first; again = c.in_ok-ids.ensures.again }
