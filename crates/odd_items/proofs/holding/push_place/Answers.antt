use Rattle.std.proofs.Common.{◌≡◌, Some}
use Rattle.std.specs.BTreeMap.{get}
use Rattle.odd_text.specs.Text.{text_cmp}
use Rattle.odd_items.proofs.Referring.{none_pushed, place_pushed}
use Rattle.odd_items.proofs.holding.push_place.Goals as goal

pub returns-in_ok-push : goal.returns-in_ok-push
returns-in_ok-push c =
    rw c.in_ok-push.ensures.ok
    (place_pushed (λ id first. get text_cmp c.args.ids.now.by_id id ≡ Some first) c.args.list.now c.args.tree.now c.in_ok-place.field-0 c.in-Some.place c.in_ok-place.ensures c.in-Some.is)

pub returns-in_default : goal.returns-in_default
returns-in_default c =
    none_pushed (λ id first. get text_cmp c.args.ids.now.by_id id ≡ Some first) c.args.list.now c.args.tree.now c.in_ok-place.field-0 c.in_ok-place.ensures c.in_default.is
