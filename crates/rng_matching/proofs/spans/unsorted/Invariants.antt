use Rattle.std.proofs.Common.{◌≡◌, map, take}
use Rattle.rng_matching.specs.Spans.{span_of}
use Rattle.rng_matching.proofs.spans.unsorted.Given as goal

abbrev pub invariant-loop-member : goal.invariant-loop-member
invariant-loop-member l = l.made.items ≡ map span_of (take l.member-index l.members)
