use Rattle.std.proofs.Common.{◌≡◌, ◌+◌, ◌-◌, ◌<◌, false, true, length, arith, ⊎_elim}
use Rattle.std.proofs.lemmas.Bool.{cases_eq}
use Rattle.odd_reader.proofs.TwoAlike.{some_twice_fails, one_twice, read_neighbours}
use Rattle.odd_reader.proofs.twice.has_twice.Goals as goal

pub loop-at-preserved : goal.loop-at-preserved
loop-at-preserved g c = λ k d lt.
    let xs = c.sort_unstable.new.self.items in
    let some : 0 < c.loop-at.at = omega arith in
    let within : c.loop-at.at < length xs = omega arith in
    ⊎_elim
    (λ e. read_neighbours g.T.PartialEq.eq xs c.loop-at.at c.index.result.now c.index-in-loop-at.result.now false some within c.index.ensures
    c.index-in-loop-at.ensures c.if-eq.ensures k d e)
    (λ ne. c.loop-at.invariant k d (omega arith)) (cases_eq (k + 1) c.loop-at.at)

pub returns-then-eq : goal.returns-then-eq
returns-then-eq g c =
    let xs = c.sort_unstable.new.self.items in
    let some : 0 < c.loop-at.at = omega arith in
    let within : c.loop-at.at < length xs = omega arith in
    let up : c.loop-at.at - 1 + 1 ≡ c.loop-at.at = omega arith in
    let lt : c.loop-at.at - 1 + 1 < length xs = omega arith in
    one_twice g.T.Ord.cmp g.T.PartialEq.eq g.met.T.Ord.total g.met.T.Ord.matches_eq c.args.items.items xs c.sort_unstable.ensures.permutation (c.loop-at.at - 1) lt
    (λ d. read_neighbours g.T.PartialEq.eq xs c.loop-at.at c.index.result.now c.index-in-loop-at.result.now true some within c.index.ensures
    c.index-in-loop-at.ensures c.if-eq.ensures (c.loop-at.at - 1) d up)

pub returns : goal.returns
returns g c =
    let xs = c.sort_unstable.new.self.items in
    some_twice_fails g.T.Ord.cmp g.T.PartialEq.eq g.met.T.Ord.total g.met.T.Ord.matches_eq c.args.items.items xs c.sort_unstable.ensures.permutation
    c.sort_unstable.ensures.sorted (λ k d lt. c.loop-at.invariant k d (omega arith))
