use Rattle.std.specs.List.{AllWithin}
use Rattle.rng_values.specs.Making.{IsUntaken}
use Rattle.rng_values.proofs.making.has_untaken.Given as goal

abbrev pub invariant-loop-facet : goal.invariant-loop-facet
invariant-loop-facet l = AllWithin (λ f. IsUntaken l.kind f → ⊥) l.facets 0 l.facet-index
