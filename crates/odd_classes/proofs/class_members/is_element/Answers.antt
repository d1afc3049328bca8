use Rattle.std.proofs.Common.{refl}
use Rattle.odd_classes.proofs.class_members.is_element.Goals as goal

pub returns-in-Element-Element : goal.returns-in-Element-Element
returns-in-Element-Element c =
    let here = c.in-Element-Element in
    (λ h. (here.field-0-1, λ i. (record { kind = here.is-0 i; ident = c.args.entry.now.0.ident }, here.is-1 i)), λ h. refl)
