use Rattle.std.proofs.Common.{◌≡◌, ◌<◌, ◌+◌, arith}
use Rattle.odd_items.specs.Arrows.{IsInside}
use Rattle.odd_items.proofs.Grown.{grown_as, grown_on, inside_all, inside_next, inside_skip, kept_at}
use Rattle.odd_items.proofs.holding.add_inside.Goals.{in-Some+in_ok-add_arrow, in_default}
use Rattle.odd_items.proofs.holding.add_inside.Goals as goal

pub loop-place-preserved : goal.loop-place-preserved
loop-place-preserved c =
    let found = c.args.found.now in
    let end = c.loop-place.place in
    let kept = c.index-found-place.result in
    let at = kept_at found end kept c.loop-place-test.true c.index-found-place.is in
    elim c.match-holder_of.branch [
      | in-Some+in_ok-add_arrow w ↦
          rw w.arrows-is
          (grown_on _ _ _ (λ holder place. (place < end) × IsInside found holder place) (λ from to. (w.in-Some.holder ≡ from) × (end ≡ to)) (λ holder place. (place < end + 1) × IsInside found holder place)
          c.loop-place.invariant w.in_ok-add_arrow.ensures (inside_next found end w.in-Some.holder kept c.holder_of.result at c.holder_of.ensures w.in-Some.is))
      | in_default w ↦
          rw w.arrows-is
          (grown_as _ _ (λ holder place. (place < end) × IsInside found holder place) (λ holder place. (place < end + 1) × IsInside found holder place) c.loop-place.invariant
          (inside_skip found end kept c.holder_of.result at c.holder_of.ensures w.in_default.is))
    ]

pub returns : goal.returns
returns c =
    let found = c.args.found.now in
    let end = c.loop-place.place in
    grown_as _ _ (λ holder place. (place < end) × IsInside found holder place) (IsInside found) c.loop-place.invariant (inside_all found end (omega (arith, c.loop-place-test.false)))
