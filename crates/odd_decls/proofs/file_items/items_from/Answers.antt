use Rattle.std.proofs.lemmas.Result.{IfOk-weaker}
use Rattle.odd_items.specs.Listing.{IsHeldBy}
use Rattle.odd_decls.proofs.KeptFound.{items_as}
use Rattle.odd_decls.proofs.StepsFound.{held_in, in_held}
use Rattle.odd_decls.specs.FileItems.{IsHeldIn}
use Rattle.odd_decls.proofs.file_items.items_from.Goals as goal

pub returns : goal.returns
returns c = λ t levels founds schema are at.
    let groups = c.args.groups.now in
    let arrows = c.in_ok-arrows.arrows.items in
    let marks = c.in_ok-marks.marks.items in
    let many = rw c.as_slice-found.ensures.value at c.in_ok-arrows.ensures.length in
    let is_arrow = rw c.as_slice-found.ensures.value at c.in_ok-arrows.ensures.arrows in
    let is_marked = rw c.as_slice.ensures.value at c.in_ok-marks.ensures in
    let held = rw (c.as_slice-found.ensures.value, c.as_slice-2.ensures.value) at c.items_held.ensures levels founds in
    IfOk-weaker c.items_held.result _ _ (λ items h. items_as levels items.items (IsHeldBy founds marks) (IsHeldIn t schema)
    (held_in t levels groups founds are arrows many is_arrow marks c.args.first schema at is_marked)
    (in_held t levels groups founds are arrows many is_arrow marks c.args.first schema at is_marked) h) (held are.kept)
