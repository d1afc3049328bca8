use Rattle.std.proofs.Common.{◌≡◌, ◌++◌, drop, take}
use Rattle.rng_matching.specs.Spans.{raised}
use Rattle.rng_matching.proofs.spans.raise.Given as goal

abbrev pub invariant-loop-span : goal.invariant-loop-span
invariant-loop-span l = take l.span-index l.spans ++ raised l.top (drop l.span-index l.spans) ≡ raised 0 l.initial.spans
