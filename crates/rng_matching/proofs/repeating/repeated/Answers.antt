use Rattle.std.proofs.lemmas.Result.{IfOk-weaker}
use Rattle.rng_dialect.specs.Matching.{IsWithin}
use Rattle.rng_matching.specs.Making.{IsFollowed, IsWithinOf}
use Rattle.rng_matching.proofs.Repeats.{at_least_made, between_made, none_of}
use Rattle.rng_matching.proofs.repeating.repeated.Goals as goal

pub returns-in_default : goal.returns-in_default
returns-in_default g c =
    let p = c.args.pat.now in
    let b = c.args.bounds in
    let rest = c.in_ok-rest.rest in
    IfOk-weaker c.followed.result (λ made. IsFollowed b.min p rest made) (λ made. IsWithinOf (IsWithin b) p made)
    (λ made h. at_least_made b p rest made (none_of b.max c.in_default.not-Some) c.in_ok-rest.ensures h) c.followed.ensures

pub returns : goal.returns
returns g c =
    let p = c.args.pat.now in
    let b = c.args.bounds in
    let rest = c.in_ok-rest-2.rest in
    IfOk-weaker c.followed-2.result (λ made. IsFollowed b.min p rest made) (λ made. IsWithinOf (IsWithin b) p made)
    (λ made h. between_made b c.in-Some.max p rest made c.in-Some.is c.if-max-bounds.false c.in_ok-rest-2.ensures h) c.followed-2.ensures
