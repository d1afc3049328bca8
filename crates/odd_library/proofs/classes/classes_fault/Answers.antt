use Rattle.std.proofs.Common.{None}
use Rattle.std.proofs.lemmas.Bool.{both_ways}
use Rattle.odd_forms.specs.Children.{ChildOfFault}
use Rattle.odd_forms.specs.declared.element.Element.TheVariants as element
use Rattle.odd_forms.proofs.Children.{with_none}
use Rattle.odd_text.proofs.Least.{all_passed, least_same, one_passed}
use Rattle.odd_library.specs.Members.{ClassesFault}
use Rattle.odd_library.proofs.classes.classes_fault.Goals as goal

pub loop-child-preserved-then-is_child : goal.loop-child-preserved-then-is_child
loop-child-preserved-then-is_child c =
    let child = c.in-Some.child.now in
    let is = c.is_child.ensures.0 c.if-is_child.true in
    one_passed (ChildOfFault c.args.form element.Classes ClassesFault) _ _ _ child c.loop-child.least _ _ c.loop-child.invariant c.in-Some.ensures.steps
    (least_same (ClassesFault child) (ChildOfFault c.args.form element.Classes ClassesFault child) _ (λ rule f. (is, f)) (λ rule f. f.1) c.in_ok-fault.ensures) c.lesser-least.ensures

pub loop-child-preserved : goal.loop-child-preserved
loop-child-preserved c =
    one_passed (ChildOfFault c.args.form element.Classes ClassesFault) _ _ _ c.in-Some.child.now c.loop-child.least None _ c.loop-child.invariant c.in-Some.ensures.steps
    (λ rule f. both_ways c.is_child.result c.if-is_child.false (c.is_child.ensures.1 f.0)) (with_none c.loop-child.least)

pub returns : goal.returns
returns c = all_passed _ _ _ _ c.loop-child.invariant c.in-None.ensures.steps.0
