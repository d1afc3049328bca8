use Rattle.std.proofs.Common.{◌≡◌, ◌&&◌, map, None, Some, ap, sym, subst, rules, ◌∙◌, nat_eq}
use Rattle.std.proofs.lemmas.Bool.{and_from, and_parts, eq-eqb, eqb-true}
use Rattle.std.proofs.lemmas.List.{drop_all}
use Rattle.std.proofs.lemmas.Result.{IfOk-weaker}
use Rattle.odd_tree.specs.Elements.{all_binds, children_of, elements_of, within}
use Rattle.odd_forms.specs.Children.{IsChild}
use Rattle.odd_forms.specs.Deep.{DeepFault, PlacedFault, is_level, left_inside}
use Rattle.odd_forms.specs.Faults.{ChildFault, OwnFault, child_in}
use Rattle.odd_text.specs.Least.{Among, IsLeast}
use Rattle.odd_forms.specs.Seen as seen
use Rattle.odd_forms.proofs.Children.{element_first}
use Rattle.odd_forms.proofs.Forms.{deep_least, named_least, stray_least}
use Rattle.odd_text.proofs.Least.{all_passed, none_passed, one_passed}
use Rattle.odd_forms.proofs.deep.+deep.Goals as goal

pub children_fault-loop-node-init : goal.children_fault-loop-node-init
children_fault-loop-node-init t c = rw (ap elements_of c.as_slice-node-items.ensures) (none_passed _ _)

pub children_fault-loop-node-preserved : goal.children_fault-loop-node-preserved
children_fault-loop-node-preserved t c =
    one_passed (PlacedFault c.args.parent c.args.left (all_binds (map (λ b. b.now) c.args.inside.now))) _ _ _ c.in-Element.child c.loop-node.least _ _ c.loop-node.invariant
    (element_first c.as_slice-node-items.result.now c.loop-node.node-index c.node-item.result c.in-Element.child c.loop-node-test.true c.node-item.is c.in-Element.is)
    c.in_ok-placed_fault.ensures c.lesser-least.ensures

pub children_fault-returns : goal.children_fault-returns
children_fault-returns t c = all_passed _ _ _ _ c.loop-node.invariant (ap elements_of (drop_all c.loop-node.node-index c.as_slice-node-items.result.now c.loop-node-test.false))

pub placed_fault-returns-in-Some : goal.placed_fault-returns-in-Some
placed_fault-returns-in-Some t c =
    let binds = all_binds (map (λ b. b.now) c.args.inside.now) in
    let child = c.args.child.now in
    let kind = c.in-Some.element in
    let is : IsChild c.args.parent kind child = subst (λ f. child_in f child ≡ Some kind) c.form-form.ensures (sym c.child_of.ensures ∙ c.in-Some.is) in
    IfOk-weaker c.deep_fault.result (IsLeast (DeepFault kind c.args.left binds child)) (IsLeast (PlacedFault c.args.parent c.args.left binds child))
    (λ o. named_least c.args.parent kind c.args.left binds child o is) c.deep_fault.ensures

pub placed_fault-returns-in-None : goal.placed_fault-returns-in-None
placed_fault-returns-in-None t c =
    let child = c.args.child.now in
    let none = sym c.child_of.ensures ∙ c.in-None.is in
    stray_least c.args.parent c.args.left _ child c.stray_fault.result (subst (λ f. child_in f child ≡ None) c.form-form.ensures none)
    (subst (λ f. IsLeast (ChildFault f child) c.stray_fault.result) c.form-form.ensures (c.stray_fault.ensures none))

pub fault_inside-returns : goal.fault_inside-returns
fault_inside-returns t c = λ around entered.
    let e = c.args.element in
    let tree = c.args.tree.now in
    let left = c.args.left in
    let form = c.form-form.ensures in
    let shown = seen.form c.form-form.result.now in
    let level = c.is_level-level.ensures ∙ ap (λ f. is_level f tree) form in
    let own = subst (λ f. IsLeast (OwnFault f (within around tree) tree) c.in_ok-own.own) form (subst (λ bs. IsLeast (OwnFault shown bs tree) c.in_ok-own.own) entered c.in_ok-own.ensures) in
    let inner = subst (λ n. IsLeast (Among (PlacedFault e n (within around tree)) (children_of tree)) c.in_ok-children.children) (c.left_inside-left.ensures ∙ ap (λ b. left_inside b left) level)
    (subst (λ bs. IsLeast (Among (PlacedFault e c.left_inside-left.result bs) (children_of tree)) c.in_ok-children.children) entered c.in_ok-children.ensures) in
    let test : c.if-level.fault_where ≡ (c.is_level-level.result && nat_eq left 0) = search rules in
    rw (c.lesser-3.ensures, c.lesser-2.ensures, c.lesser.ensures, c.fault_where-too_deep.ensures, test, c.fault_where-twice.ensures, c.has_twice.ensures, ap (λ f. f.once) form)
    (deep_least e left around tree (c.is_level-level.result && nat_eq left 0) _ _
    (λ h. let p = and_parts _ _ h in (sym level ∙ p.0, eqb-true left 0 p.1), λ h. and_from _ _ (level ∙ h.0) (eq-eqb left 0 h.1)) own inner)
