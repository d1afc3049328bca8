use Rattle.std.proofs.Common.{map, ap, Some, ◌∙◌}
use Rattle.std.proofs.lemmas.Result.{IfOk-weaker}
use Rattle.odd_tree.specs.Elements.{all_binds}
use Rattle.odd_decls.proofs.ItemFaults.{group_least, item_least, item_placed}
use Rattle.odd_decls.proofs.items.element_fault.Goals as goal

pub returns-in-SpecGrp : goal.returns-in-SpecGrp
returns-in-SpecGrp c is = group_least _ c.args.item.now (is ∙ ap Some c.in-SpecGrp.is)

pub returns-in_default : goal.returns-in_default
returns-in_default c is =
    let item = c.args.item.now in
    let element = c.args.element in
    let placed = item_placed item element is c.in_default.not-SpecGrp in
    IfOk-weaker c.deep_fault.result _ _ (λ o. item_least (all_binds (map (λ b. b.now) c.args.around.now)) item element o placed) c.deep_fault.ensures
