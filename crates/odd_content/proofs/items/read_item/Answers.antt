use Rattle.std.proofs.Common.{◌≡◌, None, Some, sym, ap, subst, ◌∙◌}
use Rattle.std.specs.Option.{option_copied}
use Rattle.std.specs.Prelude.{IfOk, codes}
use Rattle.odd_tree.specs.Elements.{given}
use Rattle.rng_values.specs.Making.{item_of}
use Rattle.odd_forms.specs.Tags.{facets_given}
use Rattle.odd_content.specs.Items.{item_by, item_given}
use Rattle.odd_content.proofs.items.read_item.Goals as goal

pub returns-in_ok-facets_given-in-Some-attribute : goal.returns-in_ok-facets_given-in-Some-attribute
returns-in_ok-facets_given-in-Some-attribute c =
    let tree = c.args.tree.now in
    let name = c.in-Some-attribute.name.now in
    let no_key : given tree (codes "key") ≡ None = sym c.attribute.ensures ∙ ap option_copied c.in_default.is in
    let named : given tree (codes "name") ≡ Some name = sym c.attribute-2.ensures ∙ ap option_copied c.in-Some-attribute.is in
    let said : item_of name c.in_ok-facets_given-in-Some-attribute.field-0 ≡ item_given tree =
    ap (item_of name) c.in_ok-facets_given-in-Some-attribute.ensures ∙ ap (λ n. item_by None n (facets_given tree)) (sym named) ∙ ap (λ k. item_by k (given tree (codes "name")) (facets_given tree)) (sym no_key) in
    subst (λ said. IfOk c.item_of-in-Some-attribute.result (λ item. item ≡ said)) said c.item_of-in-Some-attribute.ensures.value
