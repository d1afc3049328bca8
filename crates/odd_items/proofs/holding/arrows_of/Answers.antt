use Rattle.std.proofs.Common.{◌≡◌, Some, arith}
use Rattle.std.specs.BTreeMap.{get}
use Rattle.odd_text.specs.Text.{text_cmp}
use Rattle.odd_items.proofs.Grown.{arrows_got}
use Rattle.odd_items.proofs.holding.arrows_of.Goals as goal

pub returns-clause-arrows : goal.returns-clause-arrows
returns-clause-arrows c =
    arrows_got c.args.found.now (λ id first. get text_cmp c.args.ids.now.by_id id ≡ Some first) c.loop.arrows.items c.add_inside.new.arrows.items c.add_referred.new.arrows.items
    (omega (arith, c.loop.arrows.ok.0, c.loop.invariant.0, c.loop-test.false, c.loop.auto.index-end)) c.loop.invariant.1 c.in_ok-add_inside.ensures c.in_ok-add_referred.ensures
