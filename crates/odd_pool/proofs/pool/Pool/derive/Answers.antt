use Rattle.std.proofs.Common.{◌<◌, Bool, length, subst, sym}
use Rattle.std.proofs.lemmas.List.Sorted.{All-permutation}
use Rattle.std.proofs.lemmas.Result.{IfOk-weaker}
use Rattle.odd_pool.specs.Pattern.{Leaves}
use Rattle.odd_pool.specs.Pool.{pattern_at}
use Rattle.odd_pool.specs.Left.{AllBelow, Begun, StandsForSome}
use Rattle.odd_pool.proofs.Kept.{at_grown, grows_twice}
use Rattle.odd_pool.proofs.Stands.{derived, some_ordered}
use Rattle.odd_pool.proofs.pool.Pool.derive.Goals as goal

pub any_of-requires : goal.any_of-requires
any_of-requires g c =
    let n = length c.begin.new.self in
    let sorted = All-permutation (λ i. i < n) c.begin.new.walk.members.keys c.in_ok-members.members.keys c.in_ok-members.ensures c.in_ok-begin.ensures.walk.0 in
    record { members = subst (λ is. AllBelow is n) (sym c.as_slice.ensures.keys) sorted }

pub returns-clause-kept : goal.returns-clause-kept
returns-clause-kept g c =
    let one = c.make.new.self in
    let mid = c.begin.new.self in
    let new = c.any_of.new.self in
    grows_twice c.args.self.now one new c.in_ok-nothing.ensures.kept (grows_twice one mid new c.in_ok-begin.ensures.kept c.any_of.ensures.kept)

pub returns-clause-left : goal.returns-clause-left
returns-clause-left g c =
    let admits = g.A.Alphabet.admits c.args.alphabet.now in
    let s = c.args.symbol.now in
    let at = c.args.at in
    let old = c.args.self.now in
    let one = c.make.new.self in
    let mid = c.begin.new.self in
    let new = c.any_of.new.self in
    let members = c.begin.new.walk.members.keys in
    let sorted = c.in_ok-members.members.keys in
    let nothing = c.in_ok-nothing.nothing in
    let begun = subst (λ xs. Begun admits s mid at nothing xs members) c.new-walk.ensures.members c.in_ok-begin.ensures.begun in
    let same = at_grown old new (returns-clause-kept g c) at c.requires in
    IfOk-weaker c.any_of.result
    (λ left. (takes : g.row.A-Leaf.Denot → g.row.A-Symbol.Denot → Bool) → StandsForSome takes new left c.as_slice.result.now)
    (λ left. Leaves admits (pattern_at old at) s (pattern_at new left))
    (λ left h. derived admits s old one mid new at nothing left members c.in_ok-nothing.ensures.reads c.in_ok-begin.ensures.kept c.any_of.ensures.kept same begun
    (some_ordered admits new left members sorted c.in_ok-members.ensures (subst (λ xs. StandsForSome admits new left xs) c.as_slice.ensures.keys (h admits))))
    c.any_of.ensures.stands
