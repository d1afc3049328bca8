use Rattle.std.proofs.Common.{Some, ap, sym, ◌∙◌}
use Rattle.std.proofs.lemmas.Option.{slice_get-get_or, slice_get_past}
use Rattle.odd_decls.proofs.IdsAgain.{its_place_again, none_again, not_past_again}
use Rattle.odd_decls.proofs.file_items.Groups.again.Goals as goal

pub returns-in_err-place : goal.returns-in_err-place
returns-in_err-place c = λ t first end formed are. rw c.from_residual.ensures (none_again t first end formed c.args.self.now are (sym c.in_err-place.was ∙ c.again.ensures))

pub returns-in_err-group : goal.returns-in_err-group
returns-in_err-group c = λ t first end formed are.
    let found = rw c.deref.ensures.value at c.in_err-group.ensures.lookup.3 in
    absurd (not_past_again t first end formed c.args.self.now are c.in_ok-place.place (sym c.in_ok-place.was ∙ c.again.ensures) (slice_get_past _ _ found))

pub returns : goal.returns
returns c = λ t first end formed are.
    let found = rw c.deref.ensures.value at c.in_ok-group.ensures.lookup.3 in
    let kept = c.in_ok-group.group.now in
    its_place_again t first end formed c.args.self.now are c.in_ok-place.place kept (sym c.in_ok-place.was ∙ c.again.ensures)
    (slice_get-get_or c.args.self.now.found.items c.in_ok-place.place kept found.0 ∙ ap Some (sym (found.1 kept)))
