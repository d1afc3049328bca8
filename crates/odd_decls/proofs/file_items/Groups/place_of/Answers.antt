use Rattle.std.proofs.Common.{Some, ap, sym, ◌∙◌}
use Rattle.std.proofs.lemmas.Option.{slice_get-get_or, slice_get_past}
use Rattle.odd_decls.proofs.IdsFound.{its_place, no_place, not_past}
use Rattle.odd_decls.proofs.file_items.Groups.place_of.Goals as goal

pub returns-in_err-place : goal.returns-in_err-place
returns-in_err-place c = λ t are. rw c.from_residual.ensures (no_place t c.args.self.now are c.args.id.now (sym c.in_err-place.was ∙ c.find.ensures))

pub returns-in_err-group : goal.returns-in_err-group
returns-in_err-group c = λ t are.
    let found = rw c.deref.ensures.value at c.in_err-group.ensures.lookup.3 in
    absurd (not_past t c.args.self.now are c.args.id.now c.in_ok-place.place (sym c.in_ok-place.was ∙ c.find.ensures) (slice_get_past _ _ found))

pub returns : goal.returns
returns c = λ t are.
    let found = rw c.deref.ensures.value at c.in_ok-group.ensures.lookup.3 in
    let kept = c.in_ok-group.group.now in
    its_place t c.args.self.now are c.args.id.now c.in_ok-place.place kept (sym c.in_ok-place.was ∙ c.find.ensures)
    (slice_get-get_or c.args.self.now.found.items c.in_ok-place.place kept found.0 ∙ ap Some (sym (found.1 kept)))
