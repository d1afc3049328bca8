use Rattle.std.proofs.Common.{◌≡◌, ◌≤◌, ◌+◌, length, take}
use Rattle.std.specs.Prelude.{sum_by}
use Rattle.odd_classes.specs.Listing.{HasListed}
use Rattle.odd_classes.proofs.member_lists.list_in_each.Given as goal

abbrev pub invariant-loop-place : goal.invariant-loop-place
invariant-loop-place l = HasListed l.entries (take l.place-index l.places) l.ident l.fn.lists.items l.lists.items × (sum_by length l.lists.items ≡ sum_by length l.fn.lists.items + l.count) × (l.count ≤ l.place-index)
