use Rattle.std.proofs.Common.{◌↔◌, IfOk, IsTrue, subst, sym}
use Rattle.std.specs.Str.{chars}
use Rattle.rng_types.specs.declared.facet.FacetName.TheVariants as facet
use Rattle.rng_values.specs.Facets.{MeetsBy}
use Rattle.rng_values.specs.Treated.{treated}
use Rattle.rng_allows.proofs.typed.is_met.Goals as goal

pub returns-in_ok-tested-in-Pattern : goal.returns-in_ok-tested-in-Pattern
returns-in_ok-tested-in-Pattern c =
    let value = chars c.args.facet.now.value in
    let cs = treated c.args.kind (chars c.args.text.now) in
    let answer = subst (λ ds. IfOk c.is_spelled_match.result (λ yes. IsTrue yes ↔ MeetsBy facet.Pattern value ds)) c.in_ok-tested-in-Pattern.ensures c.is_spelled_match.ensures in
    subst (λ name. IfOk c.is_spelled_match.result (λ yes. IsTrue yes ↔ MeetsBy name value cs)) (sym c.in-Pattern.is) answer
