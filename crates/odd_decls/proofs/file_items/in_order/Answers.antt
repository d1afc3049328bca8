use Rattle.std.proofs.lemmas.Result.{IfOk-weaker}
use Rattle.odd_decls.proofs.PlacedItems.{ordered_items}
use Rattle.odd_decls.proofs.file_items.in_order.Goals as goal

pub returns : goal.returns
returns c = IfOk-weaker c.values_of.result _ _ (λ made is. ordered_items c.args.items.now made.items c.in_ok-placed.placed is c.in_ok-placed.ensures) c.values_of.ensures
