-- What a declaration declares by itself is formed.
use Rattle.std.proofs.Common.{ap, subst, sym, ◌∙◌}
use Rattle.odd_library.specs.Formed.{IsFormedPart}
use Rattle.odd_library.specs.Library.{component_as}
use Rattle.odd_library.specs.declared.library.Component.TheVariants as component
use Rattle.odd_library.proofs.Formed.{alone_formed}
use Rattle.odd_library.proofs.library.Component.of.Goals as goal

pub returns-in_ok-element_of-in-Element-clause-formed : goal.returns-in_ok-element_of-in-Element-clause-formed
returns-in_ok-element_of-in-Element-clause-formed c = λ formed alone.
    let spec = c.args.spec in
    subst (IsFormedPart spec.key.kind) (ap (λ k. component_as k spec) c.in-Element.is ∙ ap component.Element (sym c.in_ok-element_of-in-Element.ensures)) (alone_formed spec formed alone)

pub returns-in_ok-class_of-in-Class-clause-formed : goal.returns-in_ok-class_of-in-Class-clause-formed
returns-in_ok-class_of-in-Class-clause-formed c = λ formed alone.
    let spec = c.args.spec in
    subst (IsFormedPart spec.key.kind) (ap (λ k. component_as k spec) c.in-Class.is ∙ ap component.Class (sym c.in_ok-class_of-in-Class.ensures)) (alone_formed spec formed alone)
