use Rattle.std.proofs.Common.{◌≡◌, ap, subst, sym, ◌∙◌}
use Rattle.std.proofs.lemmas.Bool.{both_ways}
use Rattle.std.proofs.lemmas.List.{drop_all}
use Rattle.odd_tree.specs.Elements.{children_of, elements_of}
use Rattle.odd_forms.proofs.Children.{element_first}
use Rattle.odd_forms.specs.Faults.{child_in}
use Rattle.odd_forms.specs.Table.{form_at}
use Rattle.odd_items.specs.Constraints.{AddsPlaces, IsConstraint, LeavesOutConstraints}
use Rattle.odd_items.proofs.ConstraintPlaces.{AddedSoFar, HasConstraint, IsInside, IsOne, added_all, added_none, added_one, adds_same, child_put, in_children, inside_none, inside_put, none_put, one_put, text_passed}
use Rattle.odd_items.proofs.constraints.+add_constraints.Goals.{then-leaves_out_constraints+then-is_constraint+in_ok-insert, else-leaves_out_constraints, else-leaves_out_constraints-via-then-leaves_out_constraints+else-is_constraint, else-leaves_out_constraints-via-else-leaves_out_constraints, in-Some+in_ok-add_constraints, in_default-child_of}
use Rattle.odd_items.proofs.constraints.+add_constraints.Goals as goal

pub loop-node-init : goal.loop-node-init
loop-node-init t c = added_none (HasConstraint c.args.element) _ _ _ (ap elements_of c.as_slice-node-items.ensures)

pub loop-node-preserved-in_default : goal.loop-node-preserved-in_default
loop-node-preserved-in_default t c =
    let nodes = c.as_slice-node-items.result.now in
    let i = c.loop-node.node-index in
    subst (λ ts. AddedSoFar (HasConstraint c.args.element) (children_of c.args.tree.now) ts c.args.places.now.keys c.loop-node.places.keys)
    (text_passed nodes i c.node-item.result c.in_default.field-0 c.loop-node-test.true c.node-item.is c.in_default.is) c.loop-node.invariant

pub loop-node-preserved : goal.loop-node-preserved
loop-node-preserved t c =
    let e = c.args.element in
    let child = c.in-Element.child in
    let old = c.loop-node.places in
    let between = c.if-leaves_out_constraints.places in
    let now = c.match-child_of.places in
    let of : c.child_of.result ≡ child_in (form_at e) child = c.child_of.ensures ∙ ap (λ f. child_in f child) c.form.ensures in
    let Stray = LeavesOutConstraints e × IsConstraint child in
    let one : AddsPlaces (IsOne Stray child) old.keys between.keys = elim c.if-leaves_out_constraints.branch [
      | then-leaves_out_constraints+then-is_constraint+in_ok-insert w ↦
          one_put Stray child old w.insert.new.self between (c.leaves_out_constraints.ensures.0 w.if-leaves_out_constraints.true, w.is_constraint.ensures.0 w.if-is_constraint.true)
          w.in_ok-insert.ensures.updates.0 w.places-is
      | else-leaves_out_constraints w ↦
          none_put Stray child old between (λ h. elim w.else-leaves_out_constraints.branch [
            | else-leaves_out_constraints-via-then-leaves_out_constraints+else-is_constraint v ↦ both_ways _ v.if-is_constraint.false (v.is_constraint.ensures.1 h.1)
            | else-leaves_out_constraints-via-else-leaves_out_constraints v ↦ both_ways _ v.if-leaves_out_constraints.false (c.leaves_out_constraints.ensures.1 h.0)
          ]) w.places-is
    ] in
    let in_it : AddsPlaces (IsInside (child_in (form_at e) child) child) between.keys now.keys = elim c.match-child_of.branch [
      | in-Some+in_ok-add_constraints w ↦
          inside_put _ child between w.in-Some.inner w.add_constraints.new.places now (sym of ∙ w.in-Some.is) w.in_ok-add_constraints.ensures w.places-is
      | in_default-child_of w ↦ inside_none _ child between now (sym of ∙ w.in_default-child_of.is) w.places-is
    ] in
    added_one (HasConstraint e) _ _ _ _ c.loop-node.invariant child _ now.keys
    (element_first c.as_slice-node-items.result.now c.loop-node.node-index c.node-item.result child c.loop-node-test.true c.node-item.is c.in-Element.is)
    (child_put e child old.keys between.keys now.keys one in_it)

pub returns : goal.returns
returns t c =
    adds_same _ _ _ _ (in_children c.args.element c.args.tree.now)
    (added_all (HasConstraint c.args.element) _ _ _ _ c.loop-node.invariant (ap elements_of (drop_all c.loop-node.node-index c.as_slice-node-items.result.now c.loop-node-test.false)))
