use Rattle.std.proofs.Common.{◌≡◌, replicate, subst, arith}
use Rattle.std.proofs.lemmas.Result.{IfOk-weaker}
use Rattle.odd_patterns.specs.Words.{IsGroupOf}
use Rattle.rng_matching.specs.Making.{IsTimes}
use Rattle.rng_matching.proofs.Repeats.{copies_made}
use Rattle.rng_matching.proofs.repeating.times.Goals as goal

pub returns : goal.returns
returns g c =
    let p = c.args.pat.now in
    let n = c.args.count in
    let parts = c.loop.parts in
    let all : c.loop.counter ≡ n = omega arith in
    let is = subst (λ k. parts ≡ replicate k p) all c.loop.invariant in
    IfOk-weaker c.group_of.result (λ made. IsGroupOf parts made) (λ made. IsTimes n p made) (λ made h. copies_made p made n parts is h) c.group_of.ensures
