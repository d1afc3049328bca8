use Rattle.std.proofs.Common.{sym, subst}
use Rattle.odd_text.proofs.InList.{ends}
use Rattle.odd_decls.proofs.PlacedItems.{place_more}
use Rattle.odd_decls.specs.FileItems.{AreByPlace}
use Rattle.odd_decls.proofs.file_items.by_place.Goals as goal

pub loop-item-preserved : goal.loop-item-preserved
loop-item-preserved c =
    subst (λ done. AreByPlace done c.insert.new.self) (sym (ends c.args.items.now c.loop-item.item-index c.item-item.result c.loop-item-test.true c.item-item.is))
    (place_more _ c.item-item.result _ _ c.loop-item.invariant c.in_ok-insert.ensures.ordered c.in_ok-insert.ensures.updates.0)
