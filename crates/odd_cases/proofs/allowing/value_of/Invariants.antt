use Rattle.std.proofs.Common.{All}
use Rattle.rng_allows.specs.Formed.{IsFormedValue}
use Rattle.odd_cases.proofs.allowing.value_of.Given as goal

abbrev pub invariant-loop-sign : goal.invariant-loop-sign
invariant-loop-sign l = (goal.iterator-loop-sign).can_next l.sign-iterator × (goal.iterator-loop-sign).is_finite l.sign-iterator × All IsFormedValue l.parts.items
