use Rattle.std.proofs.Common.{◌≡◌, Some, ap, sym, ◌∙◌}
use Rattle.std.specs.Option.{option_copied}
use Rattle.std.specs.Prelude.{codes}
use Rattle.std.proofs.lemmas.Result.{IfOk-weaker}
use Rattle.odd_tree.specs.Elements.{given}
use Rattle.odd_forms.proofs.Values.{item_least, typed_least}
use Rattle.odd_forms.proofs.demands.typed_fault.Goals as goal

pub returns-in_ok-facets_given-in-Some : goal.returns-in_ok-facets_given-in-Some
returns-in_ok-facets_given-in-Some c = λ binds.
    let tree = c.args.tree.now in
    let name = c.in-Some.name.now in
    let told : given tree (codes "name") ≡ Some name = sym c.attribute.ensures ∙ ap option_copied c.in-Some.is in
    let fault = c.item_fault-in-Some in
    IfOk-weaker fault.result _ _ (λ o h. typed_least binds tree name o told h) (item_least name _ _ fault.result c.in_ok-facets_given-in-Some.ensures fault.ensures.sound fault.ensures.rule)
