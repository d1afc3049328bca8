use Rattle.odd_tree.specs.Elements.{children_of}
use Rattle.odd_forms.specs.Children.{ChildOfFault}
use Rattle.odd_forms.specs.declared.element.Element.TheVariants as element
use Rattle.odd_text.proofs.Least.{LeastSoFar}
use Rattle.odd_library.specs.Members.{ClassesFault}
use Rattle.odd_library.proofs.classes.classes_fault.Given as goal

abbrev pub invariant-loop-child : goal.invariant-loop-child
invariant-loop-child l = LeastSoFar (ChildOfFault l.form element.Classes ClassesFault) (children_of l.spec) l.child-iterator l.least
