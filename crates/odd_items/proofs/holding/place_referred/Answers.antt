use Rattle.std.proofs.Common.{◌≡◌, Some, sym, ◌∙◌}
use Rattle.std.specs.BTreeMap.{get}
use Rattle.odd_text.specs.Text.{text_cmp}
use Rattle.odd_items.proofs.Referring.{refers_none, refers_some}
use Rattle.odd_items.proofs.holding.place_referred.Goals as goal

pub returns-in-Some : goal.returns-in-Some
returns-in-Some c =
    refers_some (λ id first. get text_cmp c.args.ids.now.by_id id ≡ Some first) c.args.tree.now c.in_ok-id.field-0 c.in-Some.id c.find.result c.in_ok-id.ensures c.in-Some.is
    (λ place. (λ e. sym c.find.ensures ∙ e, λ e. c.find.ensures ∙ e))

pub returns-in-None : goal.returns-in-None
returns-in-None c = λ place.
    (λ e. cc, λ r. absurd (refers_none (λ id first. get text_cmp c.args.ids.now.by_id id ≡ Some first) c.args.tree.now c.in_ok-id.field-0 c.in_ok-id.ensures c.in-None.is place r))
