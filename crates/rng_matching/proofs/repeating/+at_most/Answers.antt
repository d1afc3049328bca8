use Rattle.std.proofs.Common.{◌-◌, ◌/◌, ◌≤◌, arith}
use Rattle.std.proofs.lemmas.Result.{IfOk-weaker}
use Rattle.odd_patterns.specs.Words.{SameWords}
use Rattle.odd_patterns.specs.declared.pattern.Pat.TheVariants.{Choice}
use Rattle.rng_matching.specs.Making.{IsWithinOf}
use Rattle.rng_matching.proofs.Repeats.{halves_made, none_made}
use Rattle.rng_matching.proofs.repeating.+at_most.Goals as goal

pub returns-then-count-eq0 : goal.returns-then-count-eq0
returns-then-count-eq0 g t c = none_made c.args.pat.now c.args.count c.if-count-eq0.true

pub returns : goal.returns
returns g t c =
    let p = c.args.pat.now in
    let n = c.args.count in
    let half = (n - 1) / 2 in
    let few = c.in_ok-few.few in
    let many = c.in_ok-many.many in
    IfOk-weaker c.choice.result (λ made. SameWords made (Choice few many)) (λ made. IsWithinOf (λ k. k ≤ n) p made)
    (λ made h. halves_made p few c.in_ok-some.some c.in_ok-others.others many made half (n - half - 1) n (omega arith)
    c.in_ok-few.ensures c.in_ok-some.ensures c.in_ok-others.ensures c.in_ok-many.ensures h) c.choice.ensures.words
