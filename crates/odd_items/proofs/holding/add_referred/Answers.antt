use Rattle.std.proofs.Common.{◌≡◌, ◌<◌, ◌+◌, ℕ, List, Some, arith}
use Rattle.std.specs.BTreeMap.{get}
use Rattle.odd_text.specs.Text.{text_cmp}
use Rattle.odd_tree.specs.Elements.{children_of}
use Rattle.odd_items.specs.Arrows.{IsReferred, RefersAmong}
use Rattle.odd_items.proofs.Grown.{grown_as, grown_on, kept_at, referred_all, referred_next}
use Rattle.odd_items.proofs.holding.add_referred.Goals as goal

pub loop-place-preserved : goal.loop-place-preserved
loop-place-preserved c =
    let First : List ℕ → ℕ → Type 0 = λ id first. get text_cmp c.args.ids.now.by_id id ≡ Some first in
    let found = c.args.found.now in
    let end = c.loop-place.place in
    let kept = c.index-found-place.result in
    let at = kept_at found end kept c.loop-place-test.true c.index-found-place.is in
    grown_on _ _ _ (λ holder place. (holder < end) × IsReferred found First holder place) (λ from to. (end ≡ from) × RefersAmong First (children_of kept.tree.now) to)
    (λ holder place. (holder < end + 1) × IsReferred found First holder place) c.loop-place.invariant c.in_ok-add_referred_by.ensures (referred_next found First end kept at)

pub returns : goal.returns
returns c =
    let First : List ℕ → ℕ → Type 0 = λ id first. get text_cmp c.args.ids.now.by_id id ≡ Some first in
    let found = c.args.found.now in
    let end = c.loop-place.place in
    grown_as _ _ (λ holder place. (holder < end) × IsReferred found First holder place) (IsReferred found First) c.loop-place.invariant (referred_all found First end (omega (arith, c.loop-place-test.false)))
