use Rattle.std.proofs.Common.{rules, ◌≡◌, Some, slice_get}
use Rattle.odd_pool.proofs.Members.{one_more}
use Rattle.odd_pool.proofs.walk.Walk.add.Goals as goal

pub returns-clause-members : goal.returns-clause-members
returns-clause-members c =
    let new = c.insert_once.new.set.keys in
    let at = c.in_ok-insert_once.field-0 in
    let there : slice_get new at ≡ Some c.args.member = search rules in
    one_more c.args.self.now.members.keys new c.args.member at c.in_ok-insert_once.ensures.put there
