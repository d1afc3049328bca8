-- What is laid over a component of the kind stays formed.
use Rattle.std.proofs.Common.{ap, refl, subst, sym, ◌∙◌}
use Rattle.odd_library.specs.Formed.{IsFormedPart}
use Rattle.odd_library.specs.Over.{laid_over as the_laid_over}
use Rattle.odd_library.specs.declared.library.Component.TheVariants as component
use Rattle.odd_library.proofs.Formed.{over_formed}
use Rattle.odd_library.proofs.over.laid_over.Goals as goal

pub returns-in_ok-element_over-in-Element-clause-formed : goal.returns-in_ok-element_over-in-Element-clause-formed
returns-in_ok-element_over-in-Element-clause-formed c = λ before formed.
    let k = c.args.spec.key.kind in
    subst (IsFormedPart k) (ap (λ part. the_laid_over part c.args.spec) c.in-Element.is ∙ ap component.Element (sym c.in_ok-element_over-in-Element.ensures))
    (over_formed c.args.spec formed k refl c.args.part before)

pub returns-in_ok-class_over-in-Class-clause-formed : goal.returns-in_ok-class_over-in-Class-clause-formed
returns-in_ok-class_over-in-Class-clause-formed c = λ before formed.
    let k = c.args.spec.key.kind in
    subst (IsFormedPart k) (ap (λ part. the_laid_over part c.args.spec) c.in-Class.is ∙ ap component.Class (sym c.in_ok-class_over-in-Class.ensures))
    (over_formed c.args.spec formed k refl c.args.part before)
