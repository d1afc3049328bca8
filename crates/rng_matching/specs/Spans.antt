-- Spans that are made ready to be asked.
use Rattle.std.specs.Prelude.{ℕ, max, List, [], ◌∷◌}
use Rattle.std.specs.List.Sorted.{IsNonDecreasingBy}
use Rattle.rng_dialect.specs.declared.regex.Member.{Member}
use Rattle.rng_dialect.specs.declared.regex.Member.TheVariants as member
use Rattle.rng_matching.specs.declared.spans.Span.{Span}

-- the first characters rise, and so do the last ones
abbrev pub AreReady : List Span → Type 0
AreReady spans = IsNonDecreasingBy (λ (s : Span). s.low) spans × IsNonDecreasingBy (λ (s : Span). s.top) spans

-- what a member takes, as a span
abbrev pub span_of : Member → Span
span_of (member.Char d) = record { low = d; top = d }
span_of (member.Range low high) = record { low = low; top = high }

-- each span reaches as far as the farthest before it does
abbrev pub raised : ℕ → List Span → List Span
raised top [] = []
raised top (s ∷ spans) = record { low = s.low; top = max top s.top } ∷ raised (max top s.top) spans
