use Rattle.std.proofs.Common.{◌≡◌, None, sym, subst, ◌∙◌}
use Rattle.odd_forms.specs.Faults.{ChildFault, child_in}
use Rattle.odd_text.specs.Least.{IsLeast}
use Rattle.odd_decls.proofs.ItemFaults.{other_least}
use Rattle.odd_decls.proofs.items.item_fault.Goals as goal

pub returns-in-Some : goal.returns-in-Some
returns-in-Some c told = c.element_fault.ensures (sym told ∙ c.in-Some.is)

pub returns-in-None : goal.returns-in-None
returns-in-None c told =
    let item = c.args.item.now.tree.now in
    let none = sym told ∙ c.in-None.is in
    other_least _ item _ none
    (subst (λ f. IsLeast (ChildFault f item) c.stray_fault.result) c.form.ensures (c.stray_fault.ensures (subst (λ f. child_in f item ≡ None) (sym c.form.ensures) none)))
