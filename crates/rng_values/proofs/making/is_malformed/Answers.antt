use Rattle.std.proofs.Common.{sym, ◌∙◌}
use Rattle.rng_values.proofs.ItemFaults.{malformed_told}
use Rattle.rng_values.proofs.making.is_malformed.Goals as goal

pub returns-in-Some : goal.returns-in-Some
returns-in-Some c = malformed_told c.args.facet.now c.in-Some.name c.is_number_of.result (sym c.facet_named.ensures ∙ c.in-Some.is) c.is_number_of.ensures
