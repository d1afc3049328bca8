use Rattle.std.proofs.Common.{◌≡◌, ◌<◌, Some}
use Rattle.std.specs.BTreeMap.{get}
use Rattle.odd_text.specs.Text.{text_cmp}
use Rattle.odd_items.specs.Arrows.{HasGrown, IsReferred}
use Rattle.odd_items.proofs.holding.add_referred.Given as goal

abbrev pub invariant-loop-place : goal.invariant-loop-place
invariant-loop-place l =
    HasGrown l.initial.arrows.items l.arrows.items (λ holder place. (holder < l.place) × IsReferred l.found (λ id first. get text_cmp l.ids.by_id id ≡ Some first) holder place)
