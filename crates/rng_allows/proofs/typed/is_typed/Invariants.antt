use Rattle.std.proofs.Common.{take, All}
use Rattle.std.specs.Str.{chars}
use Rattle.rng_values.specs.Facets.{Meets}
use Rattle.rng_values.specs.Treated.{treated}
use Rattle.rng_allows.proofs.typed.is_typed.Given as goal

abbrev pub invariant-loop-facet : goal.invariant-loop-facet
invariant-loop-facet l = All (λ f. Meets f (treated l.kind (chars l.text))) (take l.facet-index l.facet-items)
