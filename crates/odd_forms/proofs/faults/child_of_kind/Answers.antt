use Rattle.std.proofs.Common.{◌≡◌, None, Some, refl, sym, subst}
use Rattle.std.proofs.lemmas.Bool.{both_ways}
use Rattle.odd_text.proofs.InList.{nothing_stands, stands_first}
use Rattle.odd_text.specs.Standing.{StandsIn}
use Rattle.odd_forms.specs.Children.{GivesOne}
use Rattle.odd_forms.proofs.Children.{gives_later}
use Rattle.odd_forms.proofs.faults.child_of_kind.Goals as goal

pub loop-child-init : goal.loop-child-init
loop-child-init c = λ given g. subst (λ ts. GivesOne c.args.parent c.args.kind (λ child given. given ≡ child) ts given) (cc) g

pub returns-then-is_child : goal.returns-then-is_child
returns-then-is_child c =
    let child = c.in-Some.child.now in
    c.loop-child.invariant (Some child)
    (subst (λ ts. GivesOne c.args.parent c.args.kind (λ child given. given ≡ child) ts (Some child)) (sym c.in-Some.ensures.steps)
    (GivesOne.some child (stands_first child _) (c.is_child.ensures.0 c.if-is_child.true) refl))

pub loop-child-preserved : goal.loop-child-preserved
loop-child-preserved c = λ given g.
    c.loop-child.invariant given
    (subst (λ ts. GivesOne c.args.parent c.args.kind (λ child given. given ≡ child) ts given) (sym c.in-Some.ensures.steps)
    (gives_later c.args.parent c.args.kind _ c.in-Some.child.now _ given (λ is. both_ways c.is_child.result c.if-is_child.false (c.is_child.ensures.1 is)) g))

pub returns : goal.returns
returns c =
    c.loop-child.invariant None (GivesOne.none (λ child s is. nothing_stands child (subst (λ ts. StandsIn ts child) c.in-None.ensures.steps.0 s)))
