use Rattle.std.proofs.Common.{Some, arith, refl}
use Rattle.odd_classes.proofs.NamedKeys.{edit_more, edit_without}
use Rattle.odd_classes.proofs.links.push_datatypes.Goals.{in-Some+in-Some-datatype_of+in_ok-push_item, in-Some+in_default-datatype_of, in_default}
use Rattle.odd_classes.proofs.links.push_datatypes.Goals as goal

pub loop-at-preserved : goal.loop-at-preserved
loop-at-preserved c =
    let keys = c.args.keys.now in
    let edits = c.args.edits.now in
    let at = c.loop-at.at in
    elim c.match-value.branch [
      | in-Some+in-Some-datatype_of+in_ok-push_item w ↦
          rw (w.keys-is, w.in_ok-push_item.ensures, c.loop-at.invariant)
          (edit_more c.args.wanted keys edits at w.in-Some.edit.now w.in-Some.ensures.value (Some w.in-Some-datatype_of.datatype.now) w.in-Some-datatype_of.ensures)
      | in-Some+in_default-datatype_of w ↦
          rw (w.keys-is, c.loop-at.invariant) (edit_without c.args.wanted keys edits at w.in-Some.edit.now w.in-Some.ensures.value w.in_default-datatype_of.ensures)
      | in_default w ↦ absurd (omega (arith, w.in_default.ensures.none.0 refl))
    ]
