use Rattle.std.proofs.Common.{◌↔◌, ℕ}
use Rattle.std.proofs.lemmas.Result.{IfOk-weaker}
use Rattle.odd_classes.proofs.Thinning.{marks_lead}
use Rattle.odd_classes.specs.Leading.{LeadsToModel}
use Rattle.odd_graph.specs.Marking.{IsMarked}
use Rattle.odd_classes.proofs.leading.which_lead.Goals as goal

pub returns : goal.returns
returns c =
    let reached = rw (c.as_slice-2.ensures.value, c.in_ok-push.ensures.items) at c.in_ok-nodes.ensures.nodes in
    let marked = rw c.as_slice-3.ensures.value at c.marks_at.ensures in
    IfOk-weaker _ _ (λ marks. (node : ℕ) → IsMarked marks.items node ↔ LeadsToModel c.args.entries.now c.args.arrows.now node)
    (λ marks are. marks_lead _ _ _ _ c.requires c.in_ok-back.ensures.length c.in_ok-back.ensures.arrows c.in_ok-places_of_models.ensures _ marks.items reached are) marked
