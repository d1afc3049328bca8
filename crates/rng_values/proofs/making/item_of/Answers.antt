use Rattle.std.proofs.Common.{Some, ap, sym, ◌∙◌, subst}
use Rattle.rng_types.specs.declared.item.Item.TheVariants as items
use Rattle.rng_values.specs.Items.{ItemFault}
use Rattle.rng_values.specs.Making.{IsMadeOf, in_order}
use Rattle.rng_values.proofs.FormedItems.{made_whole}
use Rattle.rng_values.proofs.making.item_of.Goals as goal

pub returns-in_default-clause-item : goal.returns-in_default-clause-item
returns-in_default-clause-item c sound = absurd (sound 2 (ItemFault.unknown (sym c.type_named.ensures ∙ c.in_default.is)))

pub returns-clause-item : goal.returns-clause-item
returns-clause-item c sound =
    let texts = c.as_slice in
    let whole = made_whole c.args.name.now c.args.facets.now c.in-Some.kind (sym c.type_named.ensures ∙ c.in-Some.is) sound in
    subst (λ facets. IsMadeOf c.args.name.now c.args.facets.now (Some (items.Typed c.in-Some.kind facets))) (sym (c.in_ok-facets.ensures ∙ ap in_order texts.ensures)) whole
