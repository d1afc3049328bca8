use Rattle.std.proofs.Common.{◌↔◌, Bool, IsTrue, ap, not, Some, subst, sym, ◌∙◌}
use Rattle.rng_values.specs.Making.{IsUntaken}
use Rattle.rng_values.proofs.ItemFaults.{number_told, pattern_asked, unknown_told}
use Rattle.rng_values.proofs.making.is_taken.Goals as goal

pub returns-in_default : goal.returns-in_default
returns-in_default c = unknown_told c.args.kind c.args.facet.now (sym c.facet_named.ensures ∙ c.in_default.is)

pub returns-in-Pattern : goal.returns-in-Pattern
returns-in-Pattern c =
    pattern_asked c.args.kind c.args.facet.now c.is_pattern.result (sym c.facet_named.ensures ∙ c.in-Some.is ∙ ap Some c.in-Pattern.is) c.is_pattern.ensures

pub returns-in_default-name : goal.returns-in_default-name
returns-in_default-name c =
    let Told : Bool → Type 0 = λ b. IsTrue (not b) ↔ IsUntaken c.args.kind c.args.facet.now in
    subst Told (sym c.takes_facet.ensures) (number_told c.args.kind c.args.facet.now c.in-Some.name (sym c.facet_named.ensures ∙ c.in-Some.is) c.in_default-name.not-Pattern)
