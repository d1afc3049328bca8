use Rattle.std.proofs.Common.{rules}
use borrow.Author.Tests.{tests}
use Rattle.std.proofs.lemmas.Fn.{always_returns_same}
use Rattle.rng_values.proofs.Trimming.{trims}
use Rattle.rng_values.proofs.white_space.trimmed.Goals as goal

pub returns : goal.returns
returns c =
    trims c.args.text.now c.trim_start_matches.result.now c.trim_end_matches.result.now c.trim_end_matches.utf8 c.trim_start_matches.ensures.matches c.trim_end_matches.ensures.matches
    (always_returns_same _ _ _ (λ a r g h. search (rules, tests))) (always_returns_same _ _ _ (λ a r g h. search (rules, tests)))
