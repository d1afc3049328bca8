use Rattle.std.proofs.Common.{◌≡◌, ap, subst}
use Rattle.std.specs.Option.{option_copied}
use Rattle.odd_forms.specs.Children.{GivesOne}
use Rattle.odd_forms.specs.declared.element.Element.TheVariants as element
use Rattle.odd_forms.proofs.Children.{gives_made, gives_none}
use Rattle.odd_tree.specs.Elements.{children_of}
use Rattle.odd_library.proofs.ClassesSaid.{class_said}
use Rattle.odd_library.specs.Members.{IsMembershipOf, SaysEachClass}
use Rattle.odd_library.proofs.classes.classes_given.Goals as goal

pub returns-in_ok-membership_of-in-Some-clause-value : goal.returns-in_ok-membership_of-in-Some-clause-value
returns-in_ok-membership_of-in-Some-clause-value c =
    let children = children_of c.args.spec.now in
    let one = subst (GivesOne c.args.form element.Classes (λ child given. given ≡ child) children) (ap option_copied c.in-Some.is) c.child_of_kind.ensures in
    gives_made c.args.form element.Classes IsMembershipOf children c.in-Some.classes.now _ one (record { value = c.in_ok-membership_of-in-Some.ensures.value; set = c.in_ok-membership_of-in-Some.ensures.set })

pub returns-in_ok-membership_of-in-Some-clause-each : goal.returns-in_ok-membership_of-in-Some-clause-each
returns-in_ok-membership_of-in-Some-clause-each c =
    let children = children_of c.args.spec.now in
    let one = subst (GivesOne c.args.form element.Classes (λ child given. given ≡ child) children) (ap option_copied c.in-Some.is) c.child_of_kind.ensures in
    let of : IsMembershipOf c.in-Some.classes.now c.in_ok-membership_of-in-Some.field-0 = record { value = c.in_ok-membership_of-in-Some.ensures.value; set = c.in_ok-membership_of-in-Some.ensures.set } in
    gives_made c.args.form element.Classes SaysEachClass children c.in-Some.classes.now _ one (class_said c.in-Some.classes.now c.in_ok-membership_of-in-Some.field-0 of)

pub returns-in-None-clause-value : goal.returns-in-None-clause-value
returns-in-None-clause-value c =
    let children = children_of c.args.spec.now in
    gives_none c.args.form element.Classes IsMembershipOf children (subst (GivesOne c.args.form element.Classes (λ child given. given ≡ child) children) (ap option_copied c.in-None.is) c.child_of_kind.ensures)

pub returns-in-None-clause-each : goal.returns-in-None-clause-each
returns-in-None-clause-each c =
    let children = children_of c.args.spec.now in
    gives_none c.args.form element.Classes SaysEachClass children (subst (GivesOne c.args.form element.Classes (λ child given. given ≡ child) children) (ap option_copied c.in-None.is) c.child_of_kind.ensures)
