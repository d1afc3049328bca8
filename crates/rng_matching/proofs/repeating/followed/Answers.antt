use Rattle.std.proofs.lemmas.Result.{IfOk-weaker}
use Rattle.odd_patterns.specs.Words.{SameWords}
use Rattle.odd_patterns.specs.declared.pattern.Pat.TheVariants.{Group}
use Rattle.rng_matching.specs.Making.{IsFollowed}
use Rattle.rng_matching.proofs.Repeats.{followed_made}
use Rattle.rng_matching.proofs.repeating.followed.Goals as goal

pub returns : goal.returns
returns g c =
    let p = c.args.pat.now in
    let rest = c.args.rest in
    let least = c.in_ok-least.least in
    IfOk-weaker c.group.result (λ made. SameWords made (Group least rest)) (λ made. IsFollowed c.args.count p rest made)
    (λ made h. followed_made p least rest made c.args.count c.in_ok-least.ensures h) c.group.ensures
