use Rattle.std.proofs.Common.{ℕ, List}
use Rattle.std.specs.BTreeMap.{get}
use Rattle.odd_text.specs.Least.{IsLeast}
use Rattle.odd_text.specs.Text.{text_cmp}
use Rattle.odd_items.proofs.Placed.{IsAgainBefore, IsFirstBefore, groups_seen}
use Rattle.odd_items.proofs.ids.ids_of.Given as goal

abbrev pub invariant-loop-place : goal.invariant-loop-place
invariant-loop-place l =
    ((id : List ℕ) → IsFirstBefore (groups_seen l.groups) l.place id (get text_cmp l.by_id id)) × IsLeast (IsAgainBefore (groups_seen l.groups) l.place) l.again
