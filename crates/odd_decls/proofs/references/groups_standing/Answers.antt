use Rattle.std.proofs.Common.{refl}
use Rattle.std.proofs.lemmas.Bool.{both_ways}
use Rattle.odd_decls.proofs.TargetFaults.{standing_more, standing_same}
use Rattle.odd_decls.proofs.references.groups_standing.Goals.{then-is_group+in_ok-insert, else-is_group}
use Rattle.odd_decls.proofs.references.groups_standing.Goals as goal

pub loop-item-preserved : goal.loop-item-preserved
loop-item-preserved c place =
    let items = c.args.items.now in
    let i = c.loop-item.item-index in
    let item = c.item-item.result in
    elim c.if-is_group.branch [
      | then-is_group+in_ok-insert w ↦
          rw w.standing-is
          (standing_more items i item c.loop-item-test.true c.item-item.is place _ _ _ (c.is_group.ensures.0 w.if-is_group.true, refl) (w.in_ok-insert.ensures.updates.0 place)
          (c.loop-item.invariant place))
      | else-is_group w ↦
          rw w.standing-is
          (standing_same items i item c.loop-item-test.true c.item-item.is place _ (λ at g. both_ways c.is_group.result w.if-is_group.false (c.is_group.ensures.1 g.0))
          (c.loop-item.invariant place))
    ]
