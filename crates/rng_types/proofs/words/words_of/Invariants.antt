use Rattle.std.proofs.Common.{◌≡◌, [], ◌++◌}
use Rattle.rng_types.proofs.Spaced.{words_after}
use Rattle.rng_types.proofs.words.words_of.Given as goal

abbrev pub invariant-loop-c : goal.invariant-loop-c
invariant-loop-c l = l.words ++ words_after l.word l.c-iterator.rest.now ≡ words_after [] l.value
