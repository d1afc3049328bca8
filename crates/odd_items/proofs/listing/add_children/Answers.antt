use Rattle.std.proofs.Common.{ap, refl, ◌∙◌}
use Rattle.odd_forms.specs.Faults.{child_in}
use Rattle.odd_items.proofs.Held.{so_far_more}
use Rattle.odd_items.proofs.listing.add_children.Goals as goal

pub loop-tree-preserved : goal.loop-tree-preserved
loop-tree-preserved c =
    let told = c.child_of-element.ensures ∙ ap (λ f. child_in f c.in-Some.tree.now) c.form.ensures in
    so_far_more c.args.kept.now _ _ _ _ _ _ c.in-Some.tree.now c.loop-tree.invariant c.in-Some.ensures.steps c.in_ok-push.ensures.items record { tree = refl; element = told; level = refl }
