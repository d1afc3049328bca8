use Rattle.std.proofs.Common.{rules}
use Rattle.std.proofs.lemmas.List.Sorted.{IsNonDecreasingBy-from_sort_by_key}
use Rattle.rng_matching.specs.declared.spans.Span.{Span}
use Rattle.rng_matching.proofs.spans.sort.Goals as goal

pub returns-clause-rising : goal.returns-clause-rising
returns-clause-rising c = IsNonDecreasingBy-from_sort_by_key (λ (s : Span). s.low) _ c.sort_unstable_by_key.ensures.sorted (λ a r q k. search rules)
