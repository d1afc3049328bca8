use Rattle.std.proofs.Common.{rules, ◌≡◌, Some, slice_get}
use Rattle.odd_pool.proofs.Members.{one_more}
use Rattle.odd_pool.proofs.walk.Walk.mark.Goals as goal

pub returns-clause-ways : goal.returns-clause-ways
returns-clause-ways c =
    let new = c.insert_once.new.set.keys in
    let at = c.in_ok-insert_once.field-0 in
    let there : slice_get new at ≡ Some c.args.way = search rules in
    one_more c.args.self.now.ways.keys new c.args.way at c.in_ok-insert_once.ensures.put there
