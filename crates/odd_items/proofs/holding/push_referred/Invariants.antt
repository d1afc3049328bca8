use Rattle.std.proofs.Common.{◌≡◌, ◌↔◌, ◌⊎◌, ℕ, Some}
use Rattle.std.specs.BTreeMap.{get}
use Rattle.std.specs.List.{Contains}
use Rattle.odd_text.specs.Text.{text_cmp}
use Rattle.odd_tree.specs.Elements.{children_of}
use Rattle.odd_items.specs.Arrows.{RefersAmong}
use Rattle.odd_items.proofs.Referring.{ToCome}
use Rattle.odd_items.proofs.holding.push_referred.Given as goal

abbrev pub invariant-loop-child : goal.invariant-loop-child
invariant-loop-child l =
    (place : ℕ) → ToCome (λ id first. get text_cmp l.ids.by_id id ≡ Some first) l.list l.child-iterator place
    ↔ (Contains l.initial.list place ⊎ RefersAmong (λ id first. get text_cmp l.ids.by_id id ≡ Some first) (children_of l.tree) place)
