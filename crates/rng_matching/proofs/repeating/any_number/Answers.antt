use Rattle.std.proofs.lemmas.Result.{IfOk-weaker}
use Rattle.odd_patterns.specs.Words.{SameWords}
use Rattle.odd_patterns.specs.declared.pattern.Pat.TheVariants.{Choice, Empty}
use Rattle.rng_matching.specs.Making.{IsWithinOf}
use Rattle.rng_matching.proofs.Repeats.{any_made}
use Rattle.rng_matching.proofs.repeating.any_number.Goals as goal

pub returns : goal.returns
returns g c =
    let p = c.args.pat.now in
    let some = c.in_ok-some.some in
    IfOk-weaker c.choice.result (λ made. SameWords made (Choice Empty some)) (λ made. IsWithinOf (λ k. Unit {0}) p made)
    (λ made h. any_made p c.in_ok-again.again some made c.in_ok-again.ensures c.in_ok-some.ensures h) c.choice.ensures.words
