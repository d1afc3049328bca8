use Rattle.std.proofs.Common.{List, None, Option, Some, subst}
use Rattle.std.specs.Option.{IfSome}
use Rattle.odd_tree.specs.Elements.{children_of}
use Rattle.odd_tree.specs.declared.tree.Tree.{Tree}
use Rattle.odd_forms.specs.Children.{ChildOfFault, GivesOne}
use Rattle.odd_text.specs.Least.{Among, IsLeast}
use Rattle.odd_forms.specs.declared.element.Element.{Element}
use Rattle.odd_forms.specs.declared.element.Element.TheVariants as element
use Rattle.odd_library.specs.FormedMembers.{IsFormedMembership}
use Rattle.odd_library.specs.Members.{ClassesFault, IsMembershipOf}
use Rattle.odd_library.specs.declared.membership.Membership.{Membership}
use Rattle.odd_library.proofs.FormedMembers.{membership_formed}
use Rattle.odd_library.proofs.classes.read_classes.Goals as goal

-- what is given by children that break nothing is formed
given_formed : (form : Element) (children : List Tree) (o : Option Membership) → IsLeast (Among (ChildOfFault form element.Classes ClassesFault) children) None
    → GivesOne form element.Classes IsMembershipOf children o → IfSome o IsFormedMembership
given_formed form children None sound (GivesOne.none h) = tt
given_formed form children (Some made) sound (GivesOne.some child s is of) = membership_formed child made (λ rule f. sound rule (child, s, (is, f))) of

pub returns-clause-formed : goal.returns-clause-formed
returns-clause-formed c = λ none.
    let children = children_of c.args.spec.now in
    given_formed c.args.form children c.in_ok-classes.classes
    (subst (IsLeast (Among (ChildOfFault c.args.form element.Classes ClassesFault) children)) none c.in_ok-fault.ensures) c.in_ok-classes.ensures.value
